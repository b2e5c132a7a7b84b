-- Each public function's contract decides its answer, and the content of what was lent to it.
-- `Learnt` is the contract itself, as the checker hands it to callers: nothing is stated a second time here.
use mathlib.Core.Path.{◌≡◌}
use mathlib.Core.List.{List}
use Prim.Native.Nat.{ℕ, ◌+◌}
use contract.Lifetimes.{Lfts}
use lib.ListN.{take, drop}
use denote.Ref.{Bor}
use borrow.Fn.Kinds.{Dens}
use Rattle.laws.specs.OneAnswer.{OneAnswer, one_answer, together}
use Rattle.advert.specs.Entry.{IsPart}
use Rattle.advert.proofs.entry.entry_at.Kinds as entry_at_kinds
use Rattle.advert.proofs.entry.entry_at.Reads as entry_at
use Rattle.advert.proofs.entry.value_at.Kinds as value_at_kinds
use Rattle.advert.proofs.entry.value_at.Reads as value_at

pub one_entry_at : (κs : Lfts 1) (a : Dens κs entry_at_kinds.ps) → OneAnswer (entry_at.Learnt κs a) (λ r s. r)
one_entry_at κs a = one_answer _ _ _ (λ r s p. p)

-- a part: its bytes, and where it lies. Its ghost name is of the proof alone, and no contract can decide it.
abbrev pub Seen : Type 0
Seen = List ℕ × (ℕ × ℕ)

abbrev pub seen : Bor (List ℕ) → Seen
seen r = (r.now, r.ref_ptr)

pub is_seen : {cargo : Bor (List ℕ)} {from n : ℕ} {r : Bor (List ℕ)} → IsPart cargo from n r → seen r ≡ (take n (drop from cargo.now), (cargo.ref_ptr.0, from + cargo.ref_ptr.1))
is_seen is = together is.bytes (together is.block is.start)

pub one_value_at : (κs : Lfts 1) (a : Dens κs value_at_kinds.ps) → OneAnswer {W = Seen} (value_at.Learnt κs a) (λ r s. seen r)
one_value_at κs a = one_answer _ _ _ (λ r s p. is_seen p)
