-- Each public function's contract decides its answer, and the content of what was lent to it.
use mathlib.Core.List.{List}
use Prim.Native.Nat.{ℕ}
use contract.Lifetimes.{Lfts}
use borrow.Fn.Kinds.{Dens}
use Rattle.laws.specs.OneAnswer.{OneAnswer, one_answer, together}
use Rattle.reader.specs.declared.Stepped.{Stepped}
use Rattle.reader.specs.declared.slices.Ran.{Ran}
use Rattle.reader.proofs.Event.number.Kinds as event_number_kinds
use Rattle.reader.proofs.Event.number.Reads as event_number
use Rattle.reader.proofs.Reader.outside.Kinds as outside_kinds
use Rattle.reader.proofs.Reader.outside.Reads as outside
use Rattle.reader.proofs.Reader.step.Kinds as step_kinds
use Rattle.reader.proofs.Reader.step.Reads as step
use Rattle.reader.proofs.Reader.read.Kinds as read_kinds
use Rattle.reader.proofs.Reader.read.Reads as read

pub one_event_number : (κs : Lfts 0) (a : Dens κs event_number_kinds.ps) → OneAnswer (event_number.Learnt κs a) (λ r s. r)
one_event_number κs a = one_answer _ _ _ (λ r s p. p)

pub one_outside : (κs : Lfts 0) (a : Dens κs outside_kinds.ps) → OneAnswer (outside.Learnt κs a) (λ r s. r)
one_outside κs a = one_answer _ _ _ (λ r s p. p)

pub one_step : (κs : Lfts 1) (a : Dens κs step_kinds.ps) → OneAnswer {W = Stepped × List ℕ} (step.Learnt κs a) (λ r s. (r, s.1.1.0.now))
one_step κs a = one_answer _ _ _ (λ r s p. together p.0 p.1)

pub one_read : (κs : Lfts 2) (a : Dens κs read_kinds.ps) → OneAnswer {W = Ran × List ℕ} (read.Learnt κs a) (λ r s. (r, s.1.1.1.0.now))
one_read κs a = one_answer _ _ _ (λ r s p. together p.0 p.1)
