-- Each public function's contract decides its answer, and the content of what was lent to it.
-- `Learnt` is the contract itself, as the checker hands it to callers: nothing is stated a second time here.
use mathlib.Core.List.{List}
use Prim.Native.Nat.{ℕ}
use contract.Lifetimes.{Lfts}
use borrow.Fn.Kinds.{Dens}
use Rattle.laws.specs.OneAnswer.{OneAnswer, one_answer, together}
use Rattle.std.specs.Prelude.{Result}
use Rattle.verdict.specs.declared.answers.Answer.{Answer}
use Rattle.step.specs.declared.steps.Went.{Went}
use Rattle.step.proofs.steps.channel_of.Kinds as channel_of_kinds
use Rattle.step.proofs.steps.channel_of.Reads as channel_of_lem
use Rattle.step.proofs.steps.taken_by.Kinds as taken_by_kinds
use Rattle.step.proofs.steps.taken_by.Reads as taken_by
use Rattle.step.proofs.steps.step_in.Kinds as step_in_kinds
use Rattle.step.proofs.steps.step_in.Reads as step_in

pub one_channel_of : (κs : Lfts 1) (a : Dens κs channel_of_kinds.ps) → OneAnswer (channel_of_lem.Learnt κs a) (λ r s. r)
one_channel_of κs a = one_answer _ _ _ (λ r s p. p)

pub one_step_in : (κs : Lfts 2) (a : Dens κs step_in_kinds.ps)
    → OneAnswer {W = Result Went Answer × List ℕ} (step_in.Learnt κs a) (λ r s. (r, s.1.1.1.1.1.0.now))
one_step_in κs a = one_answer _ _ _ (λ r s p. together p.0 p.1)

pub one_taken_by : (κs : Lfts 0) (a : Dens κs taken_by_kinds.ps) → OneAnswer (taken_by.Learnt κs a) (λ r s. r)
one_taken_by κs a = one_answer _ _ _ (λ r s p. p)
