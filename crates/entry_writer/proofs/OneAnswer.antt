-- Each public function's contract decides its answer, and the content of what was lent to it.
-- `Learnt` is the contract itself, as the checker hands it to callers: nothing is stated a second time here.
use mathlib.Core.List.{List}
use Prim.Native.Nat.{ℕ}
use contract.Lifetimes.{Lfts}
use borrow.Fn.Kinds.{Dens}
use Rattle.laws.specs.OneAnswer.{OneAnswer, one_answer, together}
use Rattle.std.specs.Prelude.{Result}
use Rattle.refusals.specs.declared.Refusal.{Refusal}
use Rattle.entry_writer.proofs.write_entry.Kinds as write_entry_kinds
use Rattle.entry_writer.proofs.write_entry.Reads as write_entry

pub one_write_entry : (κs : Lfts 2) (a : Dens κs write_entry_kinds.ps) → OneAnswer {W = Result ℕ Refusal × List ℕ} (write_entry.Learnt κs a) (λ r s. (r, s.0.now))
one_write_entry κs a = one_answer _ _ _ (λ r s p. together p.0 p.1)
