-- Each public function's contract decides its answer, and the content of what was lent to it.
-- `Learnt` is the contract itself, as the checker hands it to callers: nothing is stated a second time here.
use mathlib.Core.List.{List}
use Prim.Native.Nat.{ℕ}
use contract.Lifetimes.{Lfts}
use borrow.Fn.Kinds.{Dens}
use Rattle.laws.specs.OneAnswer.{OneAnswer, one_answer, together}
use Rattle.verdict.proofs.answers.delivered.Kinds as delivered_kinds
use Rattle.verdict.proofs.answers.delivered.Reads as delivered
use Rattle.verdict.proofs.verdicts.judge.Kinds as judge_kinds
use Rattle.verdict.proofs.verdicts.judge.Reads as judge

pub one_judge : (κs : Lfts 1) (a : Dens κs judge_kinds.ps) → OneAnswer (judge.Learnt κs a) (λ r s. r)
one_judge κs a = one_answer _ _ _ (λ r s p. p)

-- of a returned part: its bytes, and where in memory it stands
pub one_delivered : (κs : Lfts 1) (a : Dens κs delivered_kinds.ps)
    → OneAnswer {W = List ℕ × (ℕ × ℕ)} (delivered.Learnt κs a) (λ r s. (r.now, r.ref_ptr))
one_delivered κs a = one_answer _ _ _ (λ r s p. together p.bytes p.place)
