-- Each public function's contract decides its answer.
-- `Learnt` is the contract itself, as the checker hands it to callers: nothing is stated a second time here.
use contract.Lifetimes.{Lfts}
use borrow.Fn.Kinds.{Dens}
use Rattle.laws.specs.OneAnswer.{OneAnswer, one_answer}
use Rattle.advert.proofs.OneAnswer.{Seen, seen, is_seen}
use Rattle.index.proofs.Index.build.Kinds as build_kinds
use Rattle.index.proofs.Index.build.Reads as build
use Rattle.index.proofs.Index.empty.Kinds as empty_kinds
use Rattle.index.proofs.Index.empty.Reads as empty
use Rattle.index.proofs.Index.extend.Kinds as extend_kinds
use Rattle.index.proofs.Index.extend.Reads as extend
use Rattle.index.proofs.Index.find.Kinds as find_kinds
use Rattle.index.proofs.Index.find.Reads as find
use Rattle.index.proofs.Index.value.Kinds as value_kinds
use Rattle.index.proofs.Index.value.Reads as value
use Rattle.index.proofs.Parts.find.Kinds as parts_find_kinds
use Rattle.index.proofs.Parts.find.Reads as parts_find
use Rattle.index.proofs.Parts.value.Kinds as parts_value_kinds
use Rattle.index.proofs.Parts.value.Reads as parts_value

pub one_build : (κs : Lfts 1) (a : Dens κs build_kinds.ps) → OneAnswer (build.Learnt κs a) (λ r s. r)
one_build κs a = one_answer _ _ _ (λ r s p. p)

pub one_empty : (κs : Lfts 0) (a : Dens κs empty_kinds.ps) → OneAnswer (empty.Learnt κs a) (λ r s. r)
one_empty κs a = one_answer _ _ _ (λ r s p. p)

pub one_extend : (κs : Lfts 1) (a : Dens κs extend_kinds.ps) → OneAnswer (extend.Learnt κs a) (λ r s. r)
one_extend κs a = one_answer _ _ _ (λ r s p. p)

pub one_parts_find : (κs : Lfts 1) (a : Dens κs parts_find_kinds.ps) → OneAnswer (parts_find.Learnt κs a) (λ r s. r)
one_parts_find κs a = one_answer _ _ _ (λ r s p. p)

pub one_find : (κs : Lfts 2) (a : Dens κs find_kinds.ps) → OneAnswer (find.Learnt κs a) (λ r s. r)
one_find κs a = one_answer _ _ _ (λ r s p. p)

pub one_value : (κs : Lfts 2) (a : Dens κs value_kinds.ps) → OneAnswer {W = Seen} (value.Learnt κs a) (λ r s. seen r)
one_value κs a = one_answer _ _ _ (λ r s p. is_seen p)

pub one_parts_value : (κs : Lfts 2) (a : Dens κs parts_value_kinds.ps) → OneAnswer {W = Seen} (parts_value.Learnt κs a) (λ r s. seen r)
one_parts_value κs a = one_answer _ _ _ (λ r s p. is_seen p)
