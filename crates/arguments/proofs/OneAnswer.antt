-- The public function's contract decides its answer.
use contract.Lifetimes.{Lfts}
use borrow.Fn.Kinds.{Dens}
use Rattle.laws.specs.OneAnswer.{OneAnswer, one_answer}
use Rattle.arguments.proofs.number_in.Kinds as number_in_kinds
use Rattle.arguments.proofs.number_in.Reads as number_in

pub one_number_in : (κs : Lfts 1) (a : Dens κs number_in_kinds.ps) → OneAnswer (number_in.Learnt κs a) (λ r s. r)
one_number_in κs a = one_answer _ _ _ (λ r s p. p)
