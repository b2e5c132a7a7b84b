-- Entries added to an index: they are listed behind those that it had.
use mathlib.Core.Path.{◌≡◌, refl, sym, ap, ◌∙◌}
use mathlib.Core.List.{List, [], ◌∷◌, ◌++◌, map, append-nil, append_assoc}
use Prim.Native.Nat.{ℕ, zero, suc, ◌+◌, ◌≤◌, ◌<◌}
use native.Mathlib.Omega.{arith}
use lib.ListN.{length, length-set}
use lib.Seq.{get_or-set_same, get_or-set_other}
use Rattle.advert.specs.Entry.{EntryAnswer}
use Rattle.index.specs.Index.{Slot, slot_at, listed_from, listed, slot_of, empty_at}
use Rattle.index.specs.Grow.{added, added_all}
use Rattle.index.specs.declared.Index.{Index}

-- each of its arrays has 64 places, as its type says
pub record Sized (index : Index) : Type 0 where
  pub tags : length index.tags ≡ 64
  pub places : length index.places ≡ 64
  pub lengths : length index.lengths ≡ 64

pub empty_sized : (place : ℕ) → Sized (empty_at place)
empty_sized place = record { tags = refl; places = refl; lengths = refl }

pub added_sized : (index : Index) (e : EntryAnswer) → Sized index → Sized (added index e)
added_sized index e s =
    record {
      tags = length-set index.tags index.count (slot_of e).tag ∙ s.tags;
      places = length-set index.places index.count (slot_of e).place ∙ s.places;
      lengths = length-set index.lengths index.count (slot_of e).size ∙ s.lengths;
    }

-- the n entries from the i-th on, and one more
behind_them : (index : Index) (i n : ℕ) → listed_from index i (suc n) ≡ listed_from index i n ++ (slot_at index (i + n) ∷ [])
behind_them index i zero = let here : i + 0 ≡ i = omega arith in rw here refl
behind_them index i (suc n) =
    let next : i + 1 + n ≡ i + suc n = omega arith in
    ap (λ (l : List Slot). slot_at index i ∷ l) (behind_them index (i + 1) n ∙ rw next refl)

module _ (index : Index) (e : EntryAnswer) where
  slot_kept : (i : ℕ) → i < index.count → slot_at (added index e) i ≡ slot_at index i
  slot_kept i h =
      let other : i ≡ index.count → ⊥ = λ is. omega arith in
      simp (get_or-set_other index.tags index.count i (slot_of e).tag 0 other, get_or-set_other index.places index.count i (slot_of e).place 0 other, get_or-set_other index.lengths index.count i (slot_of e).size 0 other)

  kept : (i n : ℕ) → i + n ≤ index.count → listed_from (added index e) i n ≡ listed_from index i n
  kept i zero h = refl
  kept i (suc n) h = let rest = kept (i + 1) n (omega arith) in let this = slot_kept i (omega arith) in cc

  pub listed_added : Sized index → index.count < 64 → listed (added index e) ≡ listed index ++ (slot_of e ∷ [])
  listed_added s h =
      let n : index.count + 1 ≡ suc index.count = omega arith in
      let at : 0 + index.count ≡ index.count = omega arith in
      let new : slot_at (added index e) index.count ≡ slot_of e =
      simp (get_or-set_same index.tags index.count (slot_of e).tag 0 (omega (arith, s.tags)), get_or-set_same index.places index.count (slot_of e).place 0 (omega (arith, s.places)), get_or-set_same index.lengths index.count (slot_of e).size 0 (omega (arith, s.lengths))) in
      ap (listed_from (added index e) 0) n ∙ behind_them (added index e) 0 index.count ∙ rw (kept 0 index.count (omega arith), at, new) refl

pub count_added : (index : Index) (entries : List EntryAnswer) → (added_all index entries).count ≡ index.count + length entries
count_added index [] = omega arith
count_added index (e ∷ entries) = count_added (added index e) entries ∙ omega arith

pub listed_all : (index : Index) (entries : List EntryAnswer) → Sized index → index.count + length entries ≤ 64 → listed (added_all index entries) ≡ listed index ++ map slot_of entries
listed_all index [] s h = sym (append-nil (listed index))
listed_all index (e ∷ entries) s h =
    listed_all (added index e) entries (added_sized index e s) (omega arith)
    ∙ ap (λ (l : List Slot). l ++ map slot_of entries) (listed_added index e s (omega arith))
    ∙ append_assoc (listed index) (slot_of e ∷ []) (map slot_of entries)
