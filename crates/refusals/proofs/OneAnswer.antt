-- Each public function's contract decides its answer.
-- `Learnt` is the contract itself, as the checker hands it to callers: nothing is stated a second time here.
use contract.Lifetimes.{Lfts}
use denote.RattleType.{RattleType}
use denote.Param.Laws.{Laws}
use borrow.Fn.Kinds.{Dens}
use Rattle.laws.specs.OneAnswer.{OneAnswer, one_answer}
use Rattle.refusals.proofs.Refusal.number.Kinds as number_kinds
use Rattle.refusals.proofs.Refusal.number.Reads as number
use Rattle.refusals.proofs.number_in.Kinds as number_in_kinds
use Rattle.refusals.proofs.number_in.Reads as number_in

pub one_number : (κs : Lfts 0) (a : Dens κs number_kinds.ps) → OneAnswer (number.Learnt κs a) (λ r s. r)
one_number κs a = one_answer _ _ _ (λ r s p. p)

pub one_number_in : (T : RattleType) (laws : Laws T) (κs : Lfts 2) (a : Dens κs (number_in_kinds.ps T laws))
    → OneAnswer (number_in.Learnt T laws κs a) (λ r s. r)
one_number_in T laws κs a = one_answer _ _ _ (λ r s p. p)
