-- Each public function's contract decides its answer.
-- `Learnt` is the contract itself, as the checker hands it to callers: nothing is stated a second time here.
use contract.Lifetimes.{Lfts}
use borrow.Fn.Kinds.{Dens}
use Rattle.laws.specs.OneAnswer.{OneAnswer, one_answer}
use Rattle.errors.proofs.count_codes.Kinds as count_codes_kinds
use Rattle.errors.proofs.count_codes.Reads as count_codes
use Rattle.errors.proofs.code_at.Kinds as code_at_kinds
use Rattle.errors.proofs.code_at.Reads as code_at
use Rattle.errors.proofs.meanings.meaning_of.Kinds as meaning_of_kinds
use Rattle.errors.proofs.meanings.meaning_of.Reads as meaning_of

pub one_count_codes : (κs : Lfts 1) (a : Dens κs count_codes_kinds.ps) → OneAnswer (count_codes.Learnt κs a) (λ r s. r)
one_count_codes κs a = one_answer _ _ _ (λ r s p. p)

pub one_code_at : (κs : Lfts 1) (a : Dens κs code_at_kinds.ps) → OneAnswer (code_at.Learnt κs a) (λ r s. r)
one_code_at κs a = one_answer _ _ _ (λ r s p. p)

pub one_meaning_of : (κs : Lfts 0) (a : Dens κs meaning_of_kinds.ps) → OneAnswer (meaning_of.Learnt κs a) (λ r s. r)
one_meaning_of κs a = one_answer _ _ _ (λ r s p. p)
