-- What each answer changes (document 01, "Answer numbers", the column "Also changes").
use Prim.Native.Nat.{ℕ, ◌<◌}
use mathlib.Core.Path.{◌≡◌, refl, sym, subst, ◌∙◌}
use mathlib.Core.List.{List}
use mathlib.Core.Bool.{true, false, not}
use native.Mathlib.Omega.{arith}
use lib.Dec.{eqb}
use lib.ListN.{length, drop}
use lib.Seq.{paste, paste-zero}
use borrow.Author.Tests.{not-true, eqb-true, eqb-false}
use Rattle.laws.proofs.Tests.{clash, and-true}
use Rattle.std.specs.Prelude.{Option, None, Result}
use Rattle.joining.specs.declared.Cargo.{Cargo}
use Rattle.receiver.specs.declared.Receiver.{Receiver}
use Rattle.verdict.specs.declared.answers.Answer.{Answer}
use Rattle.verdict.specs.declared.answers.Kind.{Kind}
use Rattle.verdict.specs.declared.answers.Kind.TheVariants.{Delivered, Part, Null, Refused}
use Rattle.step.specs.declared.steps.Went.{Went}
use Rattle.receiver.specs.State.{sound_receiver, channel_at, with_channel}
use Rattle.joining.specs.Channel.{repeated, heard_of}
use Rattle.step.specs.Step.{bytes_in, channel_of}
use Rattle.receiver.specs.Take.{step_on, received_by, receive, cargo_after}
use Rattle.step.proofs.Ways as ways
use Rattle.step.proofs.Ways.{Taken, Way, way, quiet, quiet_kind}

-- a quiet answer is none of 20 and 21
quiet_number : (k : Kind) (number : ℕ) → quiet_kind k number ≡ true → (number ≡ 20 → ⊥) × (number ≡ 21 → ⊥)
quiet_number (Delivered channel len) number q = absurd (clash (cc))
quiet_number Part number q = absurd (clash (cc))
quiet_number Null number q = let z = eqb-true number 0 q in (λ e. clash (omega arith), λ e. clash (omega arith))
quiet_number Refused number q =
    let p = and-true (not (eqb number 20)) _ q in
    (eqb-false number 20 (not-true _ p.0), eqb-false number 21 (not-true _ p.1))

taken_loud : (channel : ℕ) (underway : Option Cargo) (k : Kind) → Taken channel underway k → (quiet_kind k 0 ≡ false) × (k ≡ Refused → ⊥)
taken_loud channel underway (Delivered c len) q = (refl, λ e. clash (cc))
taken_loud channel underway Part q = (refl, λ e. clash (cc))
taken_loud channel underway Null q = absurd q
taken_loud channel underway Refused q = absurd q

differ : (a b : ℕ) → a ≡ b → a < b → ⊥
differ a b e h = omega arith

-- all that a 21 changes: the missing count, the number expected, and the cargo under way
pub record Unjoined (r r' : Receiver) (channel : ℕ) : Type 0 where
  pub number : ℕ
  pub gap : ℕ
  pub is : r' ≡ with_channel r channel (heard_of (channel_at r channel) number gap) None

module _ (r : Receiver) (t d : List ℕ) where
  abbrev Goes : Result Went Answer → Type 0
  Goes s = Way (channel_of t) r.underway (channel_at r (channel_of t)) s

  abbrev after : Result Went Answer → Receiver
  after s = (received_by r (channel_of t) s).receiver

  abbrev answer_of : Result Went Answer → Answer
  answer_of s = (received_by r (channel_of t) s).answer

  no_bytes : (at k : ℕ) → k ≡ 0 → paste d at (drop 4 t) k ≡ d
  no_bytes at k e = rw e (sym (paste-zero d at (drop 4 t)))

  quiet_step : (s : Result Went Answer) → Goes s → quiet (answer_of s) ≡ true → (after s ≡ r) × (bytes_in s t d ≡ d)
  quiet_step _ (ways.kept answer q) e = (refl, refl)
  quiet_step _ ways.again e = absurd (clash (cc))
  quiet_step _ (ways.lost number gap dropped at k z) e = absurd (clash (cc))
  quiet_step _ (ways.took number gap dropped underway kind at k q) e = let l = (taken_loud _ _ kind q).0 in absurd (clash (cc))

  abbrev Refuses : Result Went Answer → ℕ → Type 0
  Refuses s n = (answer_of s).number ≡ n

  repeat_step : (s : Result Went Answer) → Goes s → Refuses s 20
      → (after s ≡ with_channel r (channel_of t) (repeated (channel_at r (channel_of t))) r.underway) × (bytes_in s t d ≡ d)
  repeat_step _ (ways.kept answer q) e = absurd ((quiet_number answer.kind answer.number q).0 e)
  repeat_step _ ways.again e = (refl, no_bytes 0 0 refl)
  repeat_step _ (ways.lost number gap dropped at k z) e = absurd (differ 20 21 (sym e) (omega arith))
  repeat_step _ (ways.took number gap dropped underway kind at k q) e = absurd (differ 0 20 e (omega arith))

  unjoined_step : (s : Result Went Answer) → Goes s → Refuses s 21 → Unjoined r (after s) (channel_of t) × (bytes_in s t d ≡ d)
  unjoined_step _ (ways.kept answer q) e = absurd ((quiet_number answer.kind answer.number q).1 e)
  unjoined_step _ ways.again e = absurd (differ 20 21 e (omega arith))
  unjoined_step _ (ways.lost number gap dropped at k z) e = (record { number = number; gap = gap; is = refl }, no_bytes at k z)
  unjoined_step _ (ways.took number gap dropped underway kind at k q) e = absurd (differ 0 21 e (omega arith))

  went : Goes (step_on r t (length d))
  unfolding step_on
  went = way (sound_receiver r) r.settings r.underway (channel_at r (channel_of t)) t (length d)

  abbrev answer : Answer
  answer = (receive r t (length d)).answer

  -- null, 2, 3, 4, 9, 22, 23, 24: nothing
  pub quiet_changes_nothing : quiet answer ≡ true → ((receive r t (length d)).receiver ≡ r) × (cargo_after r t d ≡ d)
  quiet_changes_nothing e = quiet_step (step_on r t (length d)) went e

  -- 20: "repeat count + 1"
  pub repeat_changes : answer.number ≡ 20
      → ((receive r t (length d)).receiver ≡ with_channel r (channel_of t) (repeated (channel_at r (channel_of t))) r.underway) × (cargo_after r t d ≡ d)
  repeat_changes e = repeat_step (step_on r t (length d)) went e

  -- 21: "missing, expected, cargo under way"
  pub unjoined_changes : answer.number ≡ 21 → Unjoined r (receive r t (length d)).receiver (channel_of t) × (cargo_after r t d ≡ d)
  unjoined_changes e = unjoined_step (step_on r t (length d)) went e

  taken_step : (s : Result Went Answer) → Goes s → (k : Kind) → (answer_of s).kind ≡ k → quiet_kind k 0 ≡ false → (k ≡ Refused → ⊥) → Taken (channel_of t) (after s).underway k
  taken_step _ (ways.kept answer q) k e n z = absurd (loud answer.kind answer.number q (rw e n) (λ p. z (sym e ∙ p)))
    where
      loud : (k : Kind) (number : ℕ) → quiet_kind k number ≡ true → quiet_kind k 0 ≡ false → (k ≡ Refused → ⊥) → ⊥
      loud (Delivered channel len) number a b c = clash (cc)
      loud Part number a b c = clash (cc)
      loud Null number a b c = clash (cc)
      loud Refused number a b c = c refl
  taken_step _ ways.again k e n z = absurd (z (sym e))
  taken_step _ (ways.lost number gap dropped at m w) k e n z = absurd (z (sym e))
  taken_step _ (ways.took number gap dropped underway kind at m q) k e n z = subst (Taken (channel_of t) underway) e q

  -- the channel of a delivered cargo is the transfer's
  pub delivered_on : (channel len : ℕ) → answer.kind ≡ Delivered channel len → channel ≡ channel_of t
  delivered_on channel len e = taken_step (step_on r t (length d)) went (Delivered channel len) e refl (λ p. clash (cc))
