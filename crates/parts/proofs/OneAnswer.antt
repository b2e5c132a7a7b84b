-- Each public function's contract decides its answer, and the content of what was lent to it.
use mathlib.Core.List.{List}
use Prim.Native.Nat.{ℕ}
use contract.Lifetimes.{Lfts}
use borrow.Fn.Kinds.{Dens}
use Rattle.laws.specs.OneAnswer.{OneAnswer, one_answer, together}
use Rattle.parts.specs.declared.HandedIn.{HandedIn}
use Rattle.parts.proofs.channel_in.Kinds as channel_in_kinds
use Rattle.parts.proofs.channel_in.Reads as channel_in_lem
use Rattle.parts.proofs.hand_in.Kinds as hand_in_kinds
use Rattle.parts.proofs.hand_in.Reads as hand_in

pub one_channel_in : (κs : Lfts 1) (a : Dens κs channel_in_kinds.ps) → OneAnswer (channel_in_lem.Learnt κs a) (λ r s. r)
one_channel_in κs a = one_answer _ _ _ (λ r s p. p)

pub one_hand_in : (κs : Lfts 2) (a : Dens κs hand_in_kinds.ps)
    → OneAnswer {W = HandedIn × List ℕ} (hand_in.Learnt κs a) (λ r s. (r, s.1.1.1.1.1.1.0.now))
one_hand_in κs a = one_answer _ _ _ (λ r s p. together p.0 p.1)
