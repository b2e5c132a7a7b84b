-- Each public function's contract decides its answer.
use contract.Lifetimes.{Lfts}
use borrow.Fn.Kinds.{Dens}
use Rattle.laws.specs.OneAnswer.{OneAnswer, one_answer}
use Rattle.fields.proofs.plain.Kinds as plain_kinds
use Rattle.fields.proofs.plain.Reads as plain
use Rattle.fields.proofs.of_transfer.Kinds as of_transfer_kinds
use Rattle.fields.proofs.of_transfer.Reads as of_transfer

pub one_plain : (κs : Lfts 0) (a : Dens κs plain_kinds.ps) → OneAnswer (plain.Learnt κs a) (λ r s. r)
one_plain κs a = one_answer _ _ _ (λ r s p. p)

pub one_of_transfer : (κs : Lfts 0) (a : Dens κs of_transfer_kinds.ps) → OneAnswer (of_transfer.Learnt κs a) (λ r s. r)
one_of_transfer κs a = one_answer _ _ _ (λ r s p. p)
