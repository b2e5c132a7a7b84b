-- Each public function's contract decides its answer, and the content of what was lent to it.
use mathlib.Core.List.{List}
use Prim.Native.Nat.{ℕ}
use contract.Lifetimes.{Lfts}
use borrow.Fn.Kinds.{Dens}
use Rattle.laws.specs.OneAnswer.{OneAnswer, one_answer, together}
use Rattle.std.specs.Prelude.{Result}
use Rattle.refusals.specs.declared.Refusal.{Refusal}
use Rattle.lines.proofs.heading.Kinds as heading_kinds
use Rattle.lines.proofs.heading.Reads as heading
use Rattle.lines.proofs.line.Kinds as line_kinds
use Rattle.lines.proofs.line.Reads as line
use Rattle.lines.proofs.fields_line.Kinds as fields_line_kinds
use Rattle.lines.proofs.fields_line.Reads as fields_line
use Rattle.lines.proofs.trip_heading.Kinds as trip_heading_kinds
use Rattle.lines.proofs.trip_heading.Reads as trip_heading
use Rattle.lines.proofs.trip_line.Kinds as trip_line_kinds
use Rattle.lines.proofs.trip_line.Reads as trip_line

pub one_heading : (κs : Lfts 1) (a : Dens κs heading_kinds.ps) → OneAnswer {W = Result ℕ Refusal × List ℕ} (heading.Learnt κs a) (λ r s. (r, s.0.now))
one_heading κs a = one_answer _ _ _ (λ r s p. together p.0 p.1)

pub one_line : (κs : Lfts 1) (a : Dens κs line_kinds.ps) → OneAnswer {W = Result ℕ Refusal × List ℕ} (line.Learnt κs a) (λ r s. (r, s.1.0.now))
one_line κs a = one_answer _ _ _ (λ r s p. together p.0 p.1)

pub one_fields_line : (κs : Lfts 1) (a : Dens κs fields_line_kinds.ps)
    → OneAnswer {W = Result ℕ Refusal × List ℕ} (fields_line.Learnt κs a) (λ r s. (r, s.1.0.now))
one_fields_line κs a = one_answer _ _ _ (λ r s p. together p.0 p.1)

pub one_trip_heading : (κs : Lfts 1) (a : Dens κs trip_heading_kinds.ps) → OneAnswer {W = Result ℕ Refusal × List ℕ} (trip_heading.Learnt κs a) (λ r s. (r, s.0.now))
one_trip_heading κs a = one_answer _ _ _ (λ r s p. together p.0 p.1)

pub one_trip_line : (κs : Lfts 1) (a : Dens κs trip_line_kinds.ps) → OneAnswer {W = Result ℕ Refusal × List ℕ} (trip_line.Learnt κs a) (λ r s. (r, s.1.0.now))
one_trip_line κs a = one_answer _ _ _ (λ r s p. together p.0 p.1)
