-- A sound state stays sound, and an unsound one unsound, under every call.
use Prim.Native.Nat.{ℕ, ◌≤◌, ◌<◌, ◌-◌, ◌+◌, min}
use mathlib.Core.Path.{◌≡◌, refl}
use mathlib.Core.List.{List}
use mathlib.Core.Bool.{Bool, true, false, not, ◌&&◌}
use native.Mathlib.Omega.{arith}
use lib.Dec.{leb, eqb}
use lib.ListN.{length}
use borrow.Author.Tests.{lt-ltb, le-leb, leb-false, eqb-true}
use Rattle.std.specs.Result.{result_unwrap_or}
use Rattle.laws.proofs.Tests.{by_cases, and-true, and_unit}
use Rattle.header.specs.declared.Header.{Header}
use Rattle.header.specs.Sequence.{gap_of}
use Rattle.verdict.specs.declared.Settings.{Settings}
use Rattle.std.specs.Prelude.{Option, None, Some, is_some, Result, Ok, Err}
use Rattle.refusals.specs.declared.Refusal.{Refusal}
use Rattle.verdict.specs.declared.answers.Answer.{Answer}
use Rattle.joining.specs.declared.Cargo.{Cargo}
use Rattle.receiver.specs.declared.Receiver.{Receiver}
use Rattle.joining.specs.declared.channels.Channel.{Channel}
use Rattle.joining.specs.declared.joinings.Joining.{Joining}
use Rattle.step.specs.declared.steps.Went.{Went}
use Rattle.receiver.specs.State.{in_range, fits, sound, sound_receiver, fresh_receiver, channel_at}
use Rattle.verdict.specs.Judge.{judge}
use Rattle.joining.specs.Channel.{is_repeat}
use Rattle.joining.specs.Joining.{begin, join, place, carried_of}
use Rattle.step.specs.Step.{ended, go_on, step_of, channel_of}
use Rattle.receiver.specs.Take.{step_on, received_by, receive}
use Rattle.receiver.specs.Counts.{cleared}
use Rattle.receiver.proofs.Soundness.{cargo_fits}
use Rattle.verdict.proofs.Checked.{Taken, accepted}

-- a fresh receiver is sound where its settings lie in range
pub fresh_sound : (g : Settings) → sound_receiver (fresh_receiver g) ≡ in_range g
unfolding sound fits
fresh_sound g = and_unit (in_range g)

module _ (g : Settings) where
  -- the cargo that a placed transfer begins or goes on with
  record Due (h : Header) (cargo : Cargo) : Type 0 where
    some : 1 ≤ cargo.total
    most : cargo.total ≤ g.limit - 4
    due : cargo.held + (h.length - 4) ≤ cargo.total

  abbrev Bears : Header → Option Cargo → Type 0
  Bears h None = Unit {0}
  Bears h (Some cargo) = Due h cargo

  abbrev Good : Header → Joining → Type 0
  Good h p = Bears h p.cargo

  module _ (h : Header) (k : Taken g h) where
    begin_ok : (dropped : Bool) → Good h (begin h dropped)
    begin_ok dropped =
        let a = k.long in
        let b = k.short in
        record { some = omega arith; most = omega arith; due = omega arith }

    place_ok : (underway : Option Cargo) (room gap : ℕ) → fits g underway ≡ true → Good h (place underway h room gap)
    unfolding place join
    place_ok None room gap e = by_cases (Good h) h.continuation _ _ (λ q. tt) (λ q. begin_ok false)
    place_ok (Some cargo) room gap e =
        let f = cargo_fits g cargo e in
        let a = f.some in
        let b = f.most in
        let c = f.less in
        let t = cargo.total in
        let n = cargo.held in
        by_cases (Good h) h.continuation _ _
        (λ q. by_cases (Good h) (eqb cargo.channel h.channel && eqb gap 0 && eqb (h.length - 4) (cargo.total - cargo.held) && leb cargo.total room) _ _
        (λ t. let u = and-true (eqb cargo.channel h.channel && eqb gap 0 && eqb (h.length - 4) (cargo.total - cargo.held)) _ t in
        let v = eqb-true (h.length - 4) (cargo.total - cargo.held) (and-true (eqb cargo.channel h.channel && eqb gap 0) _ u.0).1 in
        record { some = a; most = b; due = omega arith })
        (λ t. tt))
        (λ q. begin_ok true)

    abbrev Fits : Went → Type 0
    Fits w = fits g w.underway ≡ true

    -- with bytes still due it fits
    part_fits : (n total held carried : ℕ) → 1 ≤ total → total ≤ g.limit - 4 → held + (h.length - 4) ≤ total → n < h.length
        → carried ≡ min n h.length - 4 → fits g (Some record { channel = h.channel; total = total; held = held + carried }) ≡ true
    unfolding fits
    part_fits n total held carried a b d l q =
        let m = k.long in
        simp (lt-ltb h.channel g.count k.channel, le-leb 1 total a, le-leb total (g.limit - 4) b, lt-ltb (held + carried) total (omega arith))

    ended_fits : (c : Channel) (n gap : ℕ) (dropped : Bool) (cargo : Option Cargo) → Bears h cargo
        → Fits (ended c h n gap dropped (carried_of (is_some cargo) n h.length) cargo)
    unfolding ended fits carried_of
    ended_fits c n gap dropped None d = refl
    ended_fits c n gap dropped (Some cargo) d =
        by_cases Fits (leb h.length n) _ _ (λ t. refl)
        (λ t. part_fits n cargo.total cargo.held _ d.some d.most d.due (leb-false h.length n t) refl)

    go_fits : (underway : Option Cargo) (c : Channel) (n room : ℕ) → fits g underway ≡ true → Fits (go_on underway c h n room)
    unfolding go_on
    go_fits underway c n room e =
        by_cases Fits (is_repeat c (gap_of h.number c.counter.next)) _ _
        (λ q. e) (λ q. ended_fits _ n _ _ _ (place_ok underway room _ e))

-- the receiver written at any place after a step that fits is sound
written_sound : (r : Receiver) (i : ℕ) (h : Header) (k : Taken r.settings h) (w : Went) → sound_receiver r ≡ true → Fits r.settings h k w
    → sound_receiver (received_by r i (Ok w)).receiver ≡ sound_receiver r
unfolding sound
written_sound r i h k w ok f =
    let p = and-true (in_range r.settings) (fits r.settings r.underway) ok in
    simp (p.0, p.1, f)

step_sound : (r : Receiver) (c : Channel) (t : List ℕ) (room i : ℕ) (v : Result Header Answer) → judge (sound_receiver r) r.settings t room ≡ v
    → sound_receiver (received_by r i (step_of r.underway c (length t) room v)).receiver ≡ sound_receiver r
unfolding step_of sound
step_sound r c t room i (Err answer) e = refl
step_sound r c t room i (Ok h) e =
    let a = accepted (sound_receiver r) r.settings t room h e in
    let p = and-true (in_range r.settings) (fits r.settings r.underway) a.ok in
    written_sound r i h a.read.taken (go_on r.underway c h (length t) room) a.ok (go_fits r.settings h a.read.taken r.underway c (length t) room p.1)

pub take_sound : (r : Receiver) (t : List ℕ) (room : ℕ) → sound_receiver (receive r t room).receiver ≡ sound_receiver r
unfolding step_on
take_sound r t room = step_sound r (channel_at r (channel_of t)) t room (channel_of t) (judge (sound_receiver r) r.settings t room) refl

pub clear_sound : (r : Receiver) → sound_receiver (result_unwrap_or (cleared r) r) ≡ sound_receiver r
unfolding cleared
clear_sound r =
    by_cases (λ (c : Result Receiver Refusal). sound_receiver (result_unwrap_or c r) ≡ sound_receiver r) (not (sound_receiver r)) _ _
    (λ q. refl) (λ q. refl)
