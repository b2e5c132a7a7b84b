-- Each public function's contract decides its answer.
-- `Learnt` is the contract itself, as the checker hands it to callers: nothing is stated a second time here.
use contract.Lifetimes.{Lfts}
use borrow.Fn.Kinds.{Dens}
use Rattle.laws.specs.OneAnswer.{OneAnswer, one_answer}
use Rattle.odometer.proofs.Odometer.fresh.Kinds as fresh_kinds
use Rattle.odometer.proofs.Odometer.fresh.Reads as fresh
use Rattle.odometer.proofs.Odometer.hear.Kinds as hear_kinds
use Rattle.odometer.proofs.Odometer.hear.Reads as hear
use Rattle.odometer.proofs.Odometer.hear_answer.Kinds as hear_answer_kinds
use Rattle.odometer.proofs.Odometer.hear_answer.Reads as hear_answer
use Rattle.odometer.proofs.Odometer.distance.Kinds as distance_kinds
use Rattle.odometer.proofs.Odometer.distance.Reads as distance
use Rattle.odometer.proofs.outcomes.Outcome.number.Kinds as number_kinds
use Rattle.odometer.proofs.outcomes.Outcome.number.Reads as number
use Rattle.odometer.proofs.totals.total_in.Kinds as total_in_kinds
use Rattle.odometer.proofs.totals.total_in.Reads as total_in

pub one_fresh : (κs : Lfts 0) (a : Dens κs fresh_kinds.ps) → OneAnswer (fresh.Learnt κs a) (λ r s. r)
one_fresh κs a = one_answer _ _ _ (λ r s p. p)

pub one_hear : (κs : Lfts 1) (a : Dens κs hear_kinds.ps) → OneAnswer (hear.Learnt κs a) (λ r s. r)
one_hear κs a = one_answer _ _ _ (λ r s p. p)

pub one_hear_answer : (κs : Lfts 1) (a : Dens κs hear_answer_kinds.ps) → OneAnswer (hear_answer.Learnt κs a) (λ r s. r)
one_hear_answer κs a = one_answer _ _ _ (λ r s p. p)

pub one_distance : (κs : Lfts 0) (a : Dens κs distance_kinds.ps) → OneAnswer (distance.Learnt κs a) (λ r s. r)
one_distance κs a = one_answer _ _ _ (λ r s p. p)

pub one_number_lem : (κs : Lfts 0) (a : Dens κs number_kinds.ps) → OneAnswer (number.Learnt κs a) (λ r s. r)
one_number_lem κs a = one_answer _ _ _ (λ r s p. p)

pub one_total_in : (κs : Lfts 1) (a : Dens κs total_in_kinds.ps) → OneAnswer (total_in.Learnt κs a) (λ r s. r)
one_total_in κs a = one_answer _ _ _ (λ r s p. p)
