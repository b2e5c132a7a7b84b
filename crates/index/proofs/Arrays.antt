-- What an index lists depends on its arrays and its count alone.
use mathlib.Core.Path.{◌≡◌, refl, ap}
use mathlib.Core.List.{List, ◌∷◌}
use Prim.Native.Nat.{ℕ, zero, suc, ◌+◌}
use Rattle.index.specs.Index.{Slot, slot_at, listed_from, index_of, sound}
use Rattle.index.specs.Find.{found}
use Rattle.index.specs.declared.Index.{Index}

module _ (index : Index) where
  -- the index without what the place of the next entry says
  abbrev arrays : Index
  arrays = index_of index.tags index.places index.lengths index.count 0

  listed_arrays : (i n : ℕ) → listed_from arrays i n ≡ listed_from index i n
  listed_arrays i zero = refl
  listed_arrays i (suc n) = ap (λ (l : List Slot). slot_at index i ∷ l) (listed_arrays (i + 1) n)

  module _ (bytes : ℕ) where
    pub sound_arrays : sound arrays bytes ≡ sound index bytes
    unfolding sound
    sound_arrays = rw (listed_arrays 0 index.count) refl

    pub found_arrays : (tag nth : ℕ) → found arrays bytes tag nth ≡ found index bytes tag nth
    unfolding found sound
    found_arrays tag nth = rw (listed_arrays 0 index.count) refl
