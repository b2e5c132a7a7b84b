-- An index and the walk over the whole advertisement (document 02, request 1).
use Rattle.std.specs.Prelude.{ℕ, zero, suc, ◌-◌, ◌<◌, ◌≡◌, true, List, [], ◌∷◌, ◌++◌, ◌⊎◌, length, get_or, Option, None, Some, Result, Ok, Err}
use Rattle.advert.specs.Entry.{EntryAnswer, tag_of}
use Rattle.advert.specs.Walk.{entries_from, end_from}
use Rattle.index.specs.Index.{Slot, listed, walked_slots, sound}
use Rattle.index.specs.Grow.{after_call}
use Rattle.index.specs.Find.{with_tag}
use Rattle.index.specs.declared.Index.{Index}
use Rattle.index.specs.declared.findings.Found.{Found}
use Rattle.refusals.specs.declared.Refusal.{Refusal}

-- "The index is proved equal to the walk over the whole advertisement": the walk from a place meets no damage, the
-- index lists what it meets, and a question is not refused
pub record IsWalk (cargo : List ℕ) (place : ℕ) (index : Index) : Type 0 where
  pub undamaged : end_from cargo place ≡ Ok None
  pub equal : listed index ≡ walked_slots cargo place
  pub taken : sound index (length cargo) ≡ true

-- "the value that the walk would reach at that occurrence", counted from 1
abbrev pub reached : List ℕ → ℕ → ℕ → ℕ → EntryAnswer
reached cargo place tag zero = Ok None
reached cargo place tag (suc n) = get_or (with_tag tag_of tag (entries_from cargo place)) n (Ok None)

-- what a question answers where the walk reaches this; a refusal is none of its entries
abbrev pub as_found : EntryAnswer → Result (Option Found) Refusal
as_found (Ok (Some entry)) = Ok (Some (record { place = entry.next - entry.length; length = entry.length }))
as_found (Ok None) = Ok None
as_found (Err refusal) = Err refusal

-- ""none" exactly when the walk meets no such one"
abbrev pub NoSuch : List ℕ → ℕ → ℕ → ℕ → Type 0
NoSuch cargo place tag nth = (nth ≡ 0) ⊎ (length (with_tag tag_of tag (entries_from cargo place)) < nth)

-- "extends the index without touching the earlier ones": the entries of the one come first in the other
pub record Begins (before after : Index) : Type 0 where
  pub rest : List Slot
  pub same : listed after ≡ listed before ++ rest

-- an advertisement that grows: it is lent after each piece, the first call builds and the later ones add. Some may be
-- refused.
abbrev pub joined : List ℕ → List (List ℕ) → List ℕ
joined cargo [] = cargo
joined cargo (more ∷ pieces) = joined (cargo ++ more) pieces

abbrev pub index_after : Index → List ℕ → List (List ℕ) → Index
index_after index cargo [] = index
index_after index cargo (more ∷ pieces) = index_after (after_call index (cargo ++ more)) (cargo ++ more) pieces
