-- What a transfer has shown that is neither null nor refused before its counter is asked.
use Prim.Native.Nat.{ℕ, ◌≤◌, ◌<◌, ◌-◌}
use mathlib.Core.Path.{◌≡◌, refl}
use mathlib.Core.List.{List}
use mathlib.Core.Bool.{Bool, true, not}
use lib.Dec.{ltb, leb, eqb}
use borrow.Author.Tests.{ltb-false, leb-false, not-false}
use Rattle.laws.proofs.Tests.{no_ok, skip}
use Rattle.header.specs.declared.Header.{Header}
use Rattle.std.specs.Prelude.{Option, None, Some, Result, Ok, Err}
use Rattle.refusals.specs.declared.Refusal.{Refusal}
use Rattle.header.specs.Header.{reading_of}
use Rattle.header.proofs.Stands.{Stands, stands}
use Rattle.verdict.specs.declared.Settings.{Settings}
use Rattle.verdict.specs.Judge.{judge_header, answered, judge_reading, judge}

pub record Taken (g : Settings) (h : Header) : Type 0 where
  pub long : 5 ≤ h.length
  pub short : h.length ≤ g.limit
  pub channel : h.channel < g.count

taken : (g : Settings) (x h : Header) → judge_header g x ≡ Ok h → (x ≡ h) × Taken g x
unfolding judge_header
taken g x h e =
    let j = skip (eqb x.length 32767) _ _ (Ok h) (no_ok _ h) e in
    let k = skip (leb x.length 4) _ _ (Ok h) (no_ok _ h) j.1 in
    let l = skip (ltb g.limit x.length) _ _ (Ok h) (no_ok _ h) k.1 in
    let m = skip (leb g.count x.channel) _ _ (Ok h) (no_ok _ h) l.1 in
    let q = m.1 in
    (cc, record { long = leb-false _ _ k.0; short = ltb-false _ _ l.0; channel = leb-false _ _ m.0 })

pub record Read (g : Settings) (t : List ℕ) (h : Header) : Type 0 where
  pub reading : reading_of t ≡ Ok (Some h)
  pub taken : Taken g h

heading : (x : Result Header Refusal) (h : Header) → answered x ≡ Ok h → x ≡ Ok h
heading (Ok x) h e = cc
heading (Err r) h e = absurd (no_ok _ h e)

read : (g : Settings) (t : List ℕ) (h : Header) (x : Result (Option Header) Refusal) → reading_of t ≡ x → judge_reading g x ≡ Ok h → Read g t h
unfolding judge_reading
read g t h (Err r) p e = absurd (no_ok _ h e)
read g t h (Ok None) p e = absurd (no_ok _ h e)
read g t h (Ok (Some x)) p e =
    let q = taken g x h (heading (judge_header g x) h e) in
    record { reading = rw (← q.0) p; taken = rw (← q.0) q.1 }

pub record Checked (sound : Bool) (g : Settings) (t : List ℕ) (room : ℕ) (h : Header) : Type 0 where
  pub ok : sound ≡ true
  pub roomy : g.limit - 4 ≤ room
  pub read : Read g t h
  pub stands : Stands t h

pub accepted : (sound : Bool) (g : Settings) (t : List ℕ) (room : ℕ) (h : Header) → judge sound g t room ≡ Ok h → Checked sound g t room h
unfolding judge
accepted sound g t room h e =
    let a = skip (not sound) _ _ (Ok h) (no_ok _ h) e in
    let b = skip (ltb room (g.limit - 4)) _ _ (Ok h) (no_ok _ h) a.1 in
    let d = read g t h (reading_of t) refl b.1 in
    record { ok = not-false _ a.0; roomy = ltb-false _ _ b.0; read = d; stands = stands t h d.reading }
