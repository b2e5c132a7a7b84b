-- Each public function's contract decides its answer.
-- `Learnt` is the contract itself, as the checker hands it to callers: nothing is stated a second time here.
use contract.Lifetimes.{Lfts}
use borrow.Fn.Kinds.{Dens}
use Rattle.laws.specs.OneAnswer.{OneAnswer, one_answer}
use Rattle.joining.proofs.held.Kinds as held_kinds
use Rattle.joining.proofs.held.Reads as held
use Rattle.joining.proofs.channels.Channel.fresh.Kinds as fresh_kinds
use Rattle.joining.proofs.channels.Channel.fresh.Reads as fresh
use Rattle.joining.proofs.channels.Channel.is_repeat.Kinds as is_repeat_kinds
use Rattle.joining.proofs.channels.Channel.is_repeat.Reads as is_repeat_lem
use Rattle.joining.proofs.channels.Channel.repeated.Kinds as repeated_kinds
use Rattle.joining.proofs.channels.Channel.repeated.Reads as repeated
use Rattle.joining.proofs.channels.Channel.heard_of.Kinds as heard_of_kinds
use Rattle.joining.proofs.channels.Channel.heard_of.Reads as heard_of_lem
use Rattle.joining.proofs.joinings.place.Kinds as place_kinds
use Rattle.joining.proofs.joinings.place.Reads as place
use Rattle.joining.proofs.joinings.carried_of.Kinds as carried_of_kinds
use Rattle.joining.proofs.joinings.carried_of.Reads as Carried-of

pub one_held : (κs : Lfts 0) (a : Dens κs held_kinds.ps) → OneAnswer (held.Learnt κs a) (λ r s. r)
one_held κs a = one_answer _ _ _ (λ r s p. p)

pub one_fresh : (κs : Lfts 0) (a : Dens κs fresh_kinds.ps) → OneAnswer (fresh.Learnt κs a) (λ r s. r)
one_fresh κs a = one_answer _ _ _ (λ r s p. p)

pub one_is_repeat : (κs : Lfts 0) (a : Dens κs is_repeat_kinds.ps) → OneAnswer (is_repeat_lem.Learnt κs a) (λ r s. r)
one_is_repeat κs a = one_answer _ _ _ (λ r s p. p)

pub one_repeated : (κs : Lfts 0) (a : Dens κs repeated_kinds.ps) → OneAnswer (repeated.Learnt κs a) (λ r s. r)
one_repeated κs a = one_answer _ _ _ (λ r s p. p)

pub one_heard_of : (κs : Lfts 0) (a : Dens κs heard_of_kinds.ps) → OneAnswer (heard_of_lem.Learnt κs a) (λ r s. r)
one_heard_of κs a = one_answer _ _ _ (λ r s p. p)

pub one_place : (κs : Lfts 0) (a : Dens κs place_kinds.ps) → OneAnswer (place.Learnt κs a) (λ r s. r)
one_place κs a = one_answer _ _ _ (λ r s p. p)

pub one_carried_of : (κs : Lfts 0) (a : Dens κs carried_of_kinds.ps) → OneAnswer (Carried-of.Learnt κs a) (λ r s. r)
one_carried_of κs a = one_answer _ _ _ (λ r s p. p)
