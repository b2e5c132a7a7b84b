-- Three tests that demand 3 does not ask for: it holds without each, and one step of the receiver's contract (demand 2) shuts each out.
use Prim.Native.Nat.{ℕ, suc, ◌-◌, ◌+◌}
use native.Mathlib.Omega.{arith}
use mathlib.Core.Bool.{true, false, and-false}
use mathlib.Core.List.{List, [], ◌∷◌}
use mathlib.Core.Path.{◌≡◌, refl}
use lib.ListN.{length}
use borrow.Author.Tests.{eq-eqb, ne_eqb}
use Rattle.std.specs.Prelude.{None, Some}
use Rattle.receiver.specs.declared.Receiver.{Receiver}
use Rattle.verdict.specs.declared.answers.Answer.{Answer}
use Rattle.verdict.specs.declared.answers.Kind.TheVariants.{Delivered, Refused}
use Rattle.verdict.specs.Answer.{tell}
use Rattle.receiver.specs.State.{fresh_receiver}
use Rattle.receiver.specs.Take.{receive}
use Rattle.link.specs.Run.{Hear, receiving}
use Rattle.link.specs.Demand.{Kept}
use Rattle.link.specs.Rules.{joins_due, spares_all}
use Rattle.link.specs.Refuted.{small, zeros}
use Rattle.link.specs.Wrong.{any_length, joins_any_length, any_channel, joins_any_channel, spares_own, drops_others}
use Rattle.link.proofs.Joining.{Enough}
use Rattle.link.proofs.Kept.{due_enough, enough_keeps}
use Rattle.link.proofs.Refute.{view}

any_length_lem : Enough any_length spares_all
any_length_lem =
    record {
      none_after_loss = λ w h gap. simp (ne_eqb (suc gap) 0 (omega arith), and-false);
      joins_own = λ x o q. simp (eq-eqb x.channel x.channel refl);
      spares_none = λ c. refl;
      spares_own_lem = λ c m o. refl;
    }

any_channel_lem : Enough any_channel spares_all
any_channel_lem =
    record {
      none_after_loss = λ w h gap. simp (ne_eqb (suc gap) 0 (omega arith));
      joins_own = λ x o q. eq-eqb (length x.bytes - o + 4 - 4) (length x.bytes - o) (omega arith);
      spares_none = λ c. refl;
      spares_own_lem = λ c m o. refl;
    }

spares_own_enough : Enough joins_due spares_own
spares_own_enough =
    record {
      none_after_loss = due_enough.none_after_loss;
      joins_own = due_enough.joins_own;
      spares_none = λ c. refl;
      spares_own_lem = λ c m o. simp (eq-eqb c c refl);
    }

-- from this sender, over this wire, comes no continuation of another length or to another channel's cargo, and no repeat amid another channel's cargo
pub any_length_keeps : Kept joins_any_length
unfolding joins_any_length
any_length_keeps = enough_keeps any_length_lem

pub any_channel_keeps : Kept joins_any_channel
unfolding joins_any_channel
any_channel_keeps = enough_keeps any_channel_lem

pub drops_others_keeps : Kept drops_others
unfolding drops_others
drops_others_keeps = enough_keeps spares_own_enough

-- ---- the single steps

-- a cargo of one byte on channel 1, and half of one of eight on channel 0: each channel's number 1 is expected
abbrev half : Receiver
half = (receive (receive (fresh_receiver small.settings) (5 ∷ 0 ∷ 1 ∷ 0 ∷ 7 ∷ []) 8).receiver (12 ∷ 0 ∷ 0 ∷ 0 ∷ 1 ∷ 2 ∷ 3 ∷ 4 ∷ []) 8).receiver

abbrev answer_of : Hear → List ℕ → Answer
answer_of hear t = (hear half zeros t).received.answer

-- a continuation of 1 byte where 4 are due
pub tells_length : (answer_of receiving (5 ∷ 128 ∷ 0 ∷ 1 ∷ 5 ∷ []) ≡ tell Refused 21 0 true) × (answer_of joins_any_length (5 ∷ 128 ∷ 0 ∷ 1 ∷ 5 ∷ []) ≡ tell (Delivered 0 8) 0 0 false)
unfolding view joins_any_length
tells_length = (refl, refl)

-- a continuation on channel 1
pub tells_channel : (answer_of receiving (8 ∷ 128 ∷ 1 ∷ 1 ∷ 5 ∷ 6 ∷ 7 ∷ 8 ∷ []) ≡ tell Refused 21 0 true) × (answer_of joins_any_channel (8 ∷ 128 ∷ 1 ∷ 1 ∷ 5 ∷ 6 ∷ 7 ∷ 8 ∷ []) ≡ tell (Delivered 1 8) 0 0 false)
unfolding view joins_any_channel
tells_channel = (refl, refl)

-- a repeat on channel 1
pub tells_repeat : ((receiving half zeros (5 ∷ 0 ∷ 1 ∷ 0 ∷ 7 ∷ [])).received.receiver.underway ≡ Some record { channel = 0; total = 8; held = 4 }) × ((drops_others half zeros (5 ∷ 0 ∷ 1 ∷ 0 ∷ 7 ∷ [])).received.receiver.underway ≡ None)
unfolding view drops_others
tells_repeat = (refl, refl)
