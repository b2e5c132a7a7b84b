-- Each public function's contract decides its answer, and the content of what was lent to it.
use mathlib.Core.List.{List}
use Prim.Native.Nat.{ℕ}
use contract.Lifetimes.{Lfts}
use borrow.Fn.Kinds.{Dens}
use Rattle.laws.specs.OneAnswer.{OneAnswer, one_answer, together}
use Rattle.std.specs.Prelude.{Result}
use Rattle.refusals.specs.declared.Refusal.{Refusal}
use Rattle.permit.specs.declared.send.Allowed.{Allowed}
use Rattle.permit.proofs.Permit.granted.Kinds as granted_kinds
use Rattle.permit.proofs.Permit.granted.Reads as granted
use Rattle.permit.proofs.Permit.hear.Kinds as hear_kinds
use Rattle.permit.proofs.Permit.hear.Reads as hear
use Rattle.permit.proofs.Permit.send.Kinds as send_kinds
use Rattle.permit.proofs.Permit.send.Reads as send
use Rattle.permit.proofs.Permit.send_message.Kinds as send_message_kinds
use Rattle.permit.proofs.Permit.send_message.Reads as send_message

pub one_granted : (κs : Lfts 0) (a : Dens κs granted_kinds.ps) → OneAnswer (granted.Learnt κs a) (λ r s. r)
one_granted κs a = one_answer _ _ _ (λ r s p. p)

pub one_hear : (κs : Lfts 0) (a : Dens κs hear_kinds.ps) → OneAnswer (hear.Learnt κs a) (λ r s. r)
one_hear κs a = one_answer _ _ _ (λ r s p. p)

pub one_send : (κs : Lfts 2) (a : Dens κs send_kinds.ps) → OneAnswer {W = Result Allowed Refusal × List ℕ} (send.Learnt κs a) (λ r s. (r, s.1.1.1.1.1.1.0.now))
one_send κs a = one_answer _ _ _ (λ r s p. together p.0 p.1)

pub one_send_message : (κs : Lfts 2) (a : Dens κs send_message_kinds.ps) → OneAnswer {W = Result Allowed Refusal × List ℕ} (send_message.Learnt κs a) (λ r s. (r, s.1.1.1.1.1.1.0.now))
one_send_message κs a = one_answer _ _ _ (λ r s p. together p.0 p.1)
