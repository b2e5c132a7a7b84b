-- An index of an advertisement (document 02, request 1).
use Rattle.std.specs.Prelude.{ℕ, zero, suc, ◌+◌, Bool, ◌&&◌, List, [], ◌∷◌, map, leb, get_or, replicate}
use Rattle.std.specs.List.{list_all}
use Rattle.advert.specs.Entry.{EntryAnswer, tag_of, value_start, value_length}
use Rattle.advert.specs.Walk.{entries_from}
use Rattle.index.specs.declared.Index.{Index}
use Rattle.index.specs.declared.Parts.{Parts}

-- "the tag, the value's place and its length"
pub record Slot : Type 0 where
  pub tag : ℕ
  pub place : ℕ
  pub size : ℕ

abbrev pub slot_tag : Slot → ℕ
slot_tag s = s.tag

-- "for up to 64 entries .., in the order they stand"
abbrev pub most_entries : ℕ
most_entries = 64

abbrev pub slot_at : Index → ℕ → Slot
slot_at index i =
    record { tag = get_or index.tags i 0; place = get_or index.places i 0; size = get_or index.lengths i 0 }

-- n of them, from the i-th on
abbrev pub listed_from : Index → ℕ → ℕ → List Slot
listed_from index i zero = []
listed_from index i (suc n) = slot_at index i ∷ listed_from index (i + 1) n

abbrev pub listed : Index → List Slot
listed index = listed_from index 0 index.count

-- an index of these parts
abbrev pub index_of : List ℕ → List ℕ → List ℕ → ℕ → ℕ → Index
index_of tags places lengths count next =
    record { tags = tags; places = places; lengths = lengths; count = count; next = next }

-- an index lent as its parts, which do not say where the next entry would begin
abbrev pub of_parts : Parts → Index
of_parts parts = index_of parts.tags.now parts.places.now parts.lengths.now parts.count 0

-- the index before a walk that begins at a place
abbrev pub empty_at : ℕ → Index
empty_at place = index_of (replicate 64 0) (replicate 64 0) (replicate 64 0) 0 place

-- the same of the walk over a whole advertisement: what an index is to be equal to
abbrev pub slot_of : EntryAnswer → Slot
slot_of e = record { tag = tag_of e; place = value_start e; size = value_length e }

abbrev pub walked_slots : List ℕ → ℕ → List Slot
walked_slots cargo place = map slot_of (entries_from cargo place)

-- 23, "an index of over 64 entries or with a value outside the advertisement", which has so many bytes
abbrev pub all_within : ℕ → List Slot → Bool
all_within bytes slots = list_all (λ s. leb (s.place + s.size) bytes) slots

unfoldable pub sound : Index → ℕ → Bool
sound index bytes = leb index.count most_entries && all_within bytes (listed index)
