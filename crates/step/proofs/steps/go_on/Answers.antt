use Rattle.std.proofs.Common.{◌≡◌, ℕ, ◌+◌, ◌≤◌, arith, ap, sym, ◌∙◌, Bool, true, false, List, length, drop}
use Rattle.std.specs.Prelude.{Option, is_some}
use Rattle.std.proofs.Math.Seq.{paste, paste-zero}
use Rattle.header.specs.declared.Header.{Header}
use Rattle.header.specs.Sequence.{gap_of}
use Rattle.verdict.specs.declared.answers.Answer.{Answer}
use Rattle.verdict.specs.Answer.{refusal}
use Rattle.joining.specs.declared.Cargo.{Cargo}
use Rattle.joining.specs.declared.channels.Channel.{Channel}
use Rattle.joining.specs.declared.joinings.Joining.{Joining}
use Rattle.joining.specs.Channel.{is_repeat, repeated, heard_of}
use Rattle.joining.specs.Joining.{held_of, place, carried_of}
use Rattle.step.specs.declared.steps.Went.{Went}
use Rattle.step.specs.Step.{went, after, go_on, bytes_of}
use Rattle.step.proofs.Carried.{place_copies, after_bytes}
use Rattle.step.proofs.steps.go_on.Goals as goal

-- what is copied is there and has room
copied : (underway : Option Cargo) (h : Header) (n room gap : ℕ) {k at : ℕ} {j : Bool} {p : Joining} → p ≡ place underway h room gap
    → j ≡ is_some p.cargo → k ≡ carried_of j n h.length → at ≡ held_of p.cargo
    → 5 ≤ h.length → 4 ≤ n → h.length ≤ room + 4 → (4 + k ≤ n) × (at + k ≤ room)
copied underway h n room gap e i f g long whole short =
    let c = rw (← e) at (place_copies h n room long short underway gap) in
    let a = c.there in
    let b = c.fits in
    rw (g, f, i) (omega arith, omega arith)

pub copy-requires : goal.copy-requires
copy-requires c =
    let a = c.args in
    copied a.underway a.h (length a.transfer.now) (length a.cargo.now) _ c.place-j.ensures c.is_some.ensures
    c.carried_of-carried.ensures c.held-at.ensures c.requires.0 c.requires.1 c.requires.2

pub after-requires : goal.after-requires
after-requires c =
    let a = c.args in
    let k = copied a.underway a.h (length a.transfer.now) (length a.cargo.now) _ c.place-j.ensures c.is_some.ensures
    c.carried_of-carried.ensures c.held-at.ensures c.requires.0 c.requires.1 c.requires.2 in
    rw (sym c.held-at.ensures) (omega (arith, k.1))

-- the step made of what the calls gave, on each way
module _ (underway : Option Cargo) (c : Channel) (h : Header) (n room : ℕ) {gap : ℕ} (g : gap ≡ gap_of h.number c.counter.next)
    {b : Bool} (e : b ≡ is_repeat c gap) (t d : List ℕ) where
  abbrev Is : Went → List ℕ → Type 0
  Is w d' = (w ≡ go_on underway c h n room) × (d' ≡ bytes_of (go_on underway c h n room) t d)

  branch : {v : Bool} → b ≡ v → is_repeat c (gap_of h.number c.counter.next) ≡ v
  branch q = ap (is_repeat c) (sym g) ∙ sym e ∙ q

  by : {w : Went} {d' : List ℕ} → w ≡ go_on underway c h n room → d' ≡ bytes_of w t d → Is w d'
  by p q = (p, q ∙ ap (λ (w : Went). bytes_of w t d) p)

  again : b ≡ true → {c' : Channel} → c' ≡ repeated c → {a : Answer} → a ≡ refusal 20 → Is (went c' underway a 0 0) d
  unfolding go_on
  again q k l = by (simp (branch q) (rw (l, k))) (paste-zero d 0 (drop 4 t))

  new : b ≡ false → {p : Joining} → p ≡ place underway h room gap → {j : Bool} → j ≡ is_some p.cargo → {k : ℕ} → k ≡ carried_of j n h.length
      → {at : ℕ} → at ≡ held_of p.cargo → {c' : Channel} → c' ≡ heard_of c h.number gap → {w : Went} → w ≡ after c' h n gap p k
      → {d' : List ℕ} → d' ≡ paste d at (drop 4 t) k → Is w d'
  unfolding go_on
  new q {p} l i {k} m f {c'} o x y =
      by (x ∙ simp (branch q) (rw (o, m, i, l, g))) (y ∙ rw (f) (sym (after_bytes c' h n gap p k t d) ∙ ap (λ (w : Went). bytes_of w t d) (sym x)))

pub returns-then-is_repeat-clause-value : goal.returns-then-is_repeat-clause-value
returns-then-is_repeat-clause-value c =
    let a = c.args in
    (again a.underway a.channel a.h (length a.transfer.now) (length a.cargo.now) c.gap-gap.ensures c.is_repeat.ensures
    a.transfer.now a.cargo.now c.if-is_repeat.true c.repeated.ensures c.from.ensures).0

pub returns-then-is_repeat-clause-cargo_after : goal.returns-then-is_repeat-clause-cargo_after
returns-then-is_repeat-clause-cargo_after c =
    let a = c.args in
    (again a.underway a.channel a.h (length a.transfer.now) (length a.cargo.now) c.gap-gap.ensures c.is_repeat.ensures
    a.transfer.now a.cargo.now c.if-is_repeat.true c.repeated.ensures c.from.ensures).1

pub returns-clause-value : goal.returns-clause-value
returns-clause-value c =
    let a = c.args in
    (new a.underway a.channel a.h (length a.transfer.now) (length a.cargo.now) c.gap-gap.ensures c.is_repeat.ensures
    a.transfer.now a.cargo.now c.if-is_repeat.false c.place-j.ensures c.is_some.ensures c.carried_of-carried.ensures
    c.held-at.ensures c.heard_of.ensures c.after.ensures c.copy.ensures).0

pub returns-clause-cargo_after : goal.returns-clause-cargo_after
returns-clause-cargo_after c =
    let a = c.args in
    (new a.underway a.channel a.h (length a.transfer.now) (length a.cargo.now) c.gap-gap.ensures c.is_repeat.ensures
    a.transfer.now a.cargo.now c.if-is_repeat.false c.place-j.ensures c.is_some.ensures c.carried_of-carried.ensures
    c.held-at.ensures c.heard_of.ensures c.after.ensures c.copy.ensures).1
