-- The walk that an index makes, entry by entry, and what a call answers by it.
use mathlib.Core.Path.{◌≡◌, refl}
use mathlib.Core.Bool.{true, cond}
use mathlib.Core.List.{List, [], ◌∷◌}
use Prim.Native.Nat.{ℕ, ◌+◌, ◌≤◌}
use native.Mathlib.Omega.{arith}
use borrow.Author.Tests.{le-ltb}
use lib.Dec.{ltb}
use lib.ListN.{length}
use Rattle.std.specs.Prelude.{None, Some, Result, Ok, Err}
use Rattle.advert.specs.Entry.{EntryAnswer, entry_at}
use Rattle.advert.specs.Walk.{entries_from, end_from}
use Rattle.advert.specs.declared.entry.Entry.{Entry}
use Rattle.advert.proofs.Inside.{inside}
use Rattle.index.proofs.Listing.{few}
use Rattle.index.proofs.Arrays.{sound_arrays}
use Rattle.advert.proofs.Steps.{walks_entry, walks_no_more, walks_refused}
use Rattle.refusals.specs.declared.Refusal.{Refusal}
use Rattle.refusals.specs.declared.Refusal.TheVariants.{FullIndex}
use Rattle.index.specs.Index.{most_entries, sound}
use Rattle.index.specs.Grow.{added, added_all, ended, walked, extended}
use Rattle.index.specs.declared.Index.{Index}

-- a walk of these entries with this end
abbrev made : Index → List EntryAnswer → EntryAnswer → Result Index Refusal
made index entries end = cond (ltb most_entries (index.count + length entries)) (Err FullIndex) (ended (added_all index entries) end)

module _ (index : Index) (cargo : List ℕ) where
  walked_as : (entries : List EntryAnswer) (end : EntryAnswer) → (entries_from cargo index.next ≡ entries) × (end_from cargo index.next ≡ end) → walked index cargo ≡ made index entries end
  unfolding walked
  walked_as entries end w = rw (w.0, w.1) refl

  module _ (entry : Entry) (here : entry_at cargo index.next ≡ Ok (Some entry)) where
    abbrev met : List EntryAnswer
    met = Ok (Some entry) ∷ entries_from cargo entry.next

    as_entry : walked index cargo ≡ made index met (end_from cargo entry.next)
    as_entry = walked_as _ _ (walks_entry cargo index.next entry here)

    pub walked_entry : walked (added index (Ok (Some entry))) cargo ≡ walked index cargo
    unfolding walked
    walked_entry =
        let many : index.count + 1 + length (entries_from cargo entry.next) ≡ index.count + length met = omega arith in
        rw (as_entry, many) refl

    pub walked_full : index.count ≡ 64 → walked index cargo ≡ Err FullIndex
    walked_full full = let entry = as_entry in grind arith

  pub walked_ended : entry_at cargo index.next ≡ Ok None → index.count ≤ 64 → walked index cargo ≡ Ok index
  walked_ended here few = let is = walked_as [] (Ok None) (walks_no_more cargo index.next here) in grind arith

  pub walked_refused : (refusal : Refusal) → entry_at cargo index.next ≡ Err refusal → index.count ≤ 64 → walked index cargo ≡ Err refusal
  walked_refused refusal here few =
      rw (walked_as [] (Err refusal) (walks_refused cargo index.next refusal here)) (simp (le-ltb most_entries (index.count + 0) (omega arith)))

  pub is_walked : sound index (length cargo) ≡ true → extended index cargo ≡ walked index cargo
  unfolding extended
  is_walked whole = rw whole refl

-- what a loop that makes the walk has at each entry and at its end
pub ruleset steps = (inside, few, sound_arrays, is_walked, walked_entry, walked_full, walked_ended, walked_refused)
