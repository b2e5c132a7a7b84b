-- Each public function's contract decides its answer, and the content of what was lent to it.
-- `Learnt` is the contract itself, as the checker hands it to callers: nothing is stated a second time here.
use mathlib.Core.List.{List}
use Prim.Native.Nat.{ℕ}
use contract.Lifetimes.{Lfts}
use borrow.Fn.Kinds.{Dens}
use Rattle.laws.specs.OneAnswer.{OneAnswer, one_answer, together}
use Rattle.std.specs.Prelude.{Result}
use Rattle.refusals.specs.declared.Refusal.{Refusal}
use Rattle.receiver.specs.declared.Received.{Received}
use Rattle.receiver.proofs.Receiver.fresh.Kinds as fresh_kinds
use Rattle.receiver.proofs.Receiver.fresh.Reads as fresh
use Rattle.receiver.proofs.Receiver.take.Kinds as take_kinds
use Rattle.receiver.proofs.Receiver.take.Reads as take
use Rattle.receiver.proofs.Receiver.copy_counts.Kinds as copy_counts_kinds
use Rattle.receiver.proofs.Receiver.copy_counts.Reads as copy_counts
use Rattle.receiver.proofs.Receiver.clear_counts.Kinds as clear_counts_kinds
use Rattle.receiver.proofs.Receiver.clear_counts.Reads as clear_counts
use Rattle.receiver.proofs.sound.is_sound.Kinds as is_sound_kinds
use Rattle.receiver.proofs.sound.is_sound.Reads as is_sound

pub one_fresh : (κs : Lfts 0) (a : Dens κs fresh_kinds.ps) → OneAnswer (fresh.Learnt κs a) (λ r s. r)
one_fresh κs a = one_answer _ _ _ (λ r s p. p)

pub one_take : (κs : Lfts 2) (a : Dens κs take_kinds.ps) → OneAnswer {W = Received × List ℕ} (take.Learnt κs a) (λ r s. (r, s.1.1.0.now))
one_take κs a = one_answer _ _ _ (λ r s p. together p.0 p.1)

pub one_copy_counts : (κs : Lfts 1) (a : Dens κs copy_counts_kinds.ps) → OneAnswer {W = Result Unit Refusal × List ℕ} (copy_counts.Learnt κs a) (λ r s. (r, s.1.0.now))
one_copy_counts κs a = one_answer _ _ _ (λ r s p. together p.0 p.1)

pub one_clear_counts : (κs : Lfts 0) (a : Dens κs clear_counts_kinds.ps) → OneAnswer (clear_counts.Learnt κs a) (λ r s. r)
one_clear_counts κs a = one_answer _ _ _ (λ r s p. p)

pub one_is_sound : (κs : Lfts 0) (a : Dens κs is_sound_kinds.ps) → OneAnswer (is_sound.Learnt κs a) (λ r s. r)
one_is_sound κs a = one_answer _ _ _ (λ r s p. p)
