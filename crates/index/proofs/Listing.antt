-- The entries listed from a place on, for the loops over them.
use mathlib.Core.Path.{◌≡◌, ap}
use mathlib.Core.Bool.{true}
use mathlib.Core.List.{List, [], ◌∷◌}
use Prim.Native.Nat.{ℕ, suc, ◌+◌, ◌-◌, ◌≤◌, ◌<◌}
use native.Mathlib.Omega.{arith}
use Rattle.index.specs.Index.{Slot, slot_at, listed_from, listed, all_within, sound}
use Rattle.index.specs.declared.Index.{Index}

-- those that are left at the i-th
unfoldable pub left : Index → ℕ → List Slot
left index i = listed_from index i (index.count - i)

module _ (index : Index) where
  pub left_all : left index 0 ≡ listed index
  unfolding left
  left_all = let n : index.count - 0 ≡ index.count = omega arith in ap (listed_from index 0) n

  pub left_turn : (i : ℕ) → i < index.count → left index i ≡ slot_at index i ∷ left index (i + 1)
  unfolding left
  left_turn i h = let n : index.count - i ≡ suc (index.count - (i + 1)) = omega arith in ap (listed_from index i) n

  pub left_none : (i : ℕ) → index.count ≤ i → left index i ≡ []
  unfolding left
  left_none i h = let n : index.count - i ≡ 0 = omega arith in ap (listed_from index i) n

  module _ (bytes : ℕ) where
    pub few : sound index bytes ≡ true → index.count ≤ 64
    unfolding sound
    few e = grind arith

    pub within_all : sound index bytes ≡ true → all_within bytes (listed index) ≡ true
    unfolding sound
    within_all e = grind arith

-- what a loop over them has before its first turn, at each and behind the last
pub ruleset turns = (left_all, left_turn, left_none)
