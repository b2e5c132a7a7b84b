-- Each public function's contract decides its answer, and the content of what was lent to it.
-- `Learnt` is the contract itself, as the checker hands it to callers: nothing is stated a second time here.
use Rattle.std.proofs.Common.{List, ℕ}
use Rattle.std.specs.Prelude.{Result}
use Rattle.refusals.specs.declared.Refusal.{Refusal}
use contract.Lifetimes.{Lfts}
use borrow.Fn.Kinds.{Dens}
use Rattle.laws.specs.OneAnswer.{OneAnswer, one_answer, together}
use Rattle.header.proofs.Header.read.Kinds as read_kinds
use Rattle.header.proofs.Header.read.Reads as read
use Rattle.header.proofs.Header.write.Kinds as write_kinds
use Rattle.header.proofs.Header.write.Reads as write
use Rattle.header.proofs.sequence.Counter.fresh.Kinds as fresh_kinds
use Rattle.header.proofs.sequence.Counter.fresh.Reads as fresh
use Rattle.header.proofs.sequence.Counter.step.Kinds as step_kinds
use Rattle.header.proofs.sequence.Counter.step.Reads as step
use Rattle.header.proofs.sequence.gap.Kinds as gap_kinds
use Rattle.header.proofs.sequence.gap.Reads as gap

pub one_read : (κs : Lfts 1) (a : Dens κs read_kinds.ps) → OneAnswer (read.Learnt κs a) (λ r s. r)
one_read κs a = one_answer _ _ _ (λ r s p. p)

pub one_write : (κs : Lfts 1) (a : Dens κs write_kinds.ps) → OneAnswer {W = Result Unit Refusal × List ℕ} (write.Learnt κs a) (λ r s. (r, s.1.0.now))
one_write κs a = one_answer _ _ _ (λ r s p. together p.0 p.1)

pub one_fresh : (κs : Lfts 0) (a : Dens κs fresh_kinds.ps) → OneAnswer (fresh.Learnt κs a) (λ r s. r)
one_fresh κs a = one_answer _ _ _ (λ r s p. p)

pub one_step : (κs : Lfts 0) (a : Dens κs step_kinds.ps) → OneAnswer (step.Learnt κs a) (λ r s. r)
one_step κs a = one_answer _ _ _ (λ r s p. p)

pub one_gap : (κs : Lfts 0) (a : Dens κs gap_kinds.ps) → OneAnswer (gap.Learnt κs a) (λ r s. r)
one_gap κs a = one_answer _ _ _ (λ r s p. p)
