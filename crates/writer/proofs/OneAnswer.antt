-- Each public function's contract decides its answer, and the content of what was lent to it.
use Rattle.std.proofs.Common.{List, ℕ}
use Rattle.std.specs.Prelude.{Result}
use Rattle.refusals.specs.declared.Refusal.{Refusal}
use contract.Lifetimes.{Lfts}
use borrow.Fn.Kinds.{Dens}
use Rattle.laws.specs.OneAnswer.{OneAnswer, one_answer, together}
use Rattle.writer.proofs.special.Kinds as special_kinds
use Rattle.writer.proofs.special.Reads as special
use Rattle.writer.proofs.measure.Kinds as measure_kinds
use Rattle.writer.proofs.measure.Reads as measure
use Rattle.writer.proofs.write_joined.Kinds as write_joined_kinds
use Rattle.writer.proofs.write_joined.Reads as write_joined
use Rattle.writer.proofs.write.Kinds as write_kinds
use Rattle.writer.proofs.write.Reads as write
use Rattle.writer.proofs.write_query.Kinds as write_query_kinds
use Rattle.writer.proofs.write_query.Reads as write_query
use Rattle.writer.proofs.write_notice.Kinds as write_notice_kinds
use Rattle.writer.proofs.write_notice.Reads as write_notice

pub one_special : (κs : Lfts 0) (a : Dens κs special_kinds.ps) → OneAnswer (special.Learnt κs a) (λ r s. r)
one_special κs a = one_answer _ _ _ (λ r s p. p)

pub one_measure : (κs : Lfts 2) (a : Dens κs measure_kinds.ps) → OneAnswer (measure.Learnt κs a) (λ r s. r)
one_measure κs a = one_answer _ _ _ (λ r s p. p)

pub one_write_joined : (κs : Lfts 3) (a : Dens κs write_joined_kinds.ps) → OneAnswer {W = Result ℕ Refusal × List ℕ} (write_joined.Learnt κs a) (λ r s. (r, s.1.1.1.0.now))
one_write_joined κs a = one_answer _ _ _ (λ r s p. together p.0 p.1)

pub one_write : (κs : Lfts 2) (a : Dens κs write_kinds.ps) → OneAnswer {W = Result ℕ Refusal × List ℕ} (write.Learnt κs a) (λ r s. (r, s.1.1.0.now))
one_write κs a = one_answer _ _ _ (λ r s p. together p.0 p.1)

pub one_write_query : (κs : Lfts 1) (a : Dens κs write_query_kinds.ps) → OneAnswer {W = Result ℕ Refusal × List ℕ} (write_query.Learnt κs a) (λ r s. (r, s.0.now))
one_write_query κs a = one_answer _ _ _ (λ r s p. together p.0 p.1)

pub one_write_notice : (κs : Lfts 1) (a : Dens κs write_notice_kinds.ps) → OneAnswer {W = Result ℕ Refusal × List ℕ} (write_notice.Learnt κs a) (λ r s. (r, s.1.0.now))
one_write_notice κs a = one_answer _ _ _ (λ r s p. together p.0 p.1)
