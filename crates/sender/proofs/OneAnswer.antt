-- Each public function's contract decides its answer, and the content of what was lent to it.
-- `Learnt` is the contract itself, as the checker hands it to callers: nothing is stated a second time here.
use mathlib.Core.List.{List}
use Prim.Native.Nat.{ℕ}
use contract.Lifetimes.{Lfts}
use borrow.Fn.Kinds.{Dens}
use Rattle.laws.specs.OneAnswer.{OneAnswer, one_answer, together}
use Rattle.std.specs.Prelude.{Result}
use Rattle.refusals.specs.declared.Refusal.{Refusal}
use Rattle.sender.specs.declared.Sent.{Sent}
use Rattle.sender.proofs.Sender.fresh.Kinds as fresh_kinds
use Rattle.sender.proofs.Sender.fresh.Reads as fresh
use Rattle.sender.proofs.Sender.next.Kinds as next_kinds
use Rattle.sender.proofs.Sender.next.Reads as next
use Rattle.sender.proofs.Sender.send.Kinds as send_kinds
use Rattle.sender.proofs.Sender.send.Reads as send
use Rattle.sender.proofs.Sender.abandon.Kinds as abandon_kinds
use Rattle.sender.proofs.Sender.abandon.Reads as abandon

pub one_fresh : (κs : Lfts 0) (a : Dens κs fresh_kinds.ps) → OneAnswer (fresh.Learnt κs a) (λ r s. r)
one_fresh κs a = one_answer _ _ _ (λ r s p. p)

pub one_next : (κs : Lfts 0) (a : Dens κs next_kinds.ps) → OneAnswer (next.Learnt κs a) (λ r s. r)
one_next κs a = one_answer _ _ _ (λ r s p. p)

pub one_send : (κs : Lfts 2) (a : Dens κs send_kinds.ps) → OneAnswer {W = Result Sent Refusal × List ℕ} (send.Learnt κs a) (λ r s. (r, s.1.1.1.0.now))
one_send κs a = one_answer _ _ _ (λ r s p. together p.0 p.1)

pub one_abandon : (κs : Lfts 0) (a : Dens κs abandon_kinds.ps) → OneAnswer (abandon.Learnt κs a) (λ r s. r)
one_abandon κs a = one_answer _ _ _ (λ r s p. p)
