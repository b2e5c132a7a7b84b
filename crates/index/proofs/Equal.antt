-- An index that was built is the walk over the whole advertisement.
use mathlib.Core.Path.{◌≡◌, refl}
use mathlib.Core.Bool.{true}
use mathlib.Core.List.{List, map}
use Prim.Native.Nat.{ℕ, zero, suc, ◌+◌, ◌-◌, ◌≤◌}
use native.Mathlib.Omega.{arith}
use borrow.Author.Tests.{le-leb}
use lib.ListN.{length}
use Rattle.std.specs.Prelude.{None, Some, Ok, Err}
use Rattle.laws.proofs.Tests.{clash}
use Rattle.refusals.specs.Number.{number_in}
use Rattle.advert.specs.Entry.{EntryAnswer, entry_at}
use Rattle.advert.specs.Walk.{goes_on, next_place, entries_by, entries_from, end_from}
use Rattle.advert.proofs.Inside.{inside}
use Rattle.advert.proofs.Steps.{undamaged}
use Rattle.index.specs.Index.{most_entries, slot_of, listed, walked_slots, all_within, sound, empty_at}
use Rattle.index.specs.Grow.{added_all, ended, walked, extended, built}
use Rattle.index.specs.Whole.{IsWalk}
use Rattle.index.specs.declared.Index.{Index}
use Rattle.index.proofs.Adding.{empty_sized, count_added, listed_all}

-- a call that was not refused, and what the index became
pub record Grew (index : Index) (cargo : List ℕ) (after : Index) : Type 0 where
  pub whole : sound index (length cargo) ≡ true
  pub few : index.count + length (entries_from cargo index.next) ≤ 64
  pub end : end_from cargo index.next ≡ Ok None
  pub is : added_all index (entries_from cargo index.next) ≡ after

not_damaged : (index after : Index) (end : EntryAnswer) → ended index end ≡ Ok after → (number_in end ≡ 0) × (index ≡ after)
not_damaged index after (Ok end) e = (refl, cc)
not_damaged index after (Err refusal) e = absurd (clash cc)

pub grew : (index : Index) (cargo : List ℕ) (after : Index) → extended index cargo ≡ Ok after → Grew index cargo after
unfolding extended walked
grew index cargo after e =
    let entries = entries_from cargo index.next in
    let whole : sound index (length cargo) ≡ true = grind arith in
    let few : index.count + length entries ≤ 64 = grind arith in
    let fine : ended (added_all index entries) (end_from cargo index.next) ≡ Ok after = grind arith in
    let n = not_damaged _ after (end_from cargo index.next) fine in
    record { whole = whole; few = few; end = undamaged cargo index.next n.0; is = n.1 }

-- the values of a walk lie within the advertisement
within_by : (cargo : List ℕ) (place : ℕ) (e : EntryAnswer) → entry_at cargo place ≡ e → (rest : List EntryAnswer) → all_within (length cargo) (map slot_of rest) ≡ true
    → all_within (length cargo) (map slot_of (goes_on e rest)) ≡ true
within_by cargo place (Ok (Some entry)) q rest all =
    let i = inside cargo place entry q in
    rw (le-leb (entry.next - entry.length + entry.length) (length cargo) (omega (arith, i.end, i.room))) all
within_by cargo place (Ok None) q rest all = refl
within_by cargo place (Err refusal) q rest all = refl

walk_within : (f : ℕ) (cargo : List ℕ) (place : ℕ) → all_within (length cargo) (map slot_of (entries_by f cargo place)) ≡ true
walk_within zero cargo place = refl
walk_within (suc f) cargo place = within_by cargo place (entry_at cargo place) refl (entries_by f cargo (next_place cargo place)) (walk_within f cargo (next_place cargo place))

module _ (cargo : List ℕ) (place : ℕ) (index : Index) (g : Grew (empty_at place) cargo index) where
  lists_walk : listed (added_all (empty_at place) (entries_from cargo place)) ≡ walked_slots cargo place
  lists_walk = listed_all (empty_at place) (entries_from cargo place) (empty_sized place) g.few

  is_sound : sound (added_all (empty_at place) (entries_from cargo place)) (length cargo) ≡ true
  unfolding sound
  is_sound =
      rw (le-leb (added_all (empty_at place) (entries_from cargo place)).count most_entries (omega (arith, g.few, count_added (empty_at place) (entries_from cargo place))), lists_walk)
      (walk_within (length cargo) cargo place)

  grew_is_walk : IsWalk cargo place index
  grew_is_walk = rw (← g.is) (record { undamaged = g.end; equal = lists_walk; taken = is_sound })

pub index_is_walk : (cargo : List ℕ) (place : ℕ) (index : Index) → built cargo place ≡ Ok index → IsWalk cargo place index
index_is_walk cargo place index e = grew_is_walk cargo place index (grew (empty_at place) cargo index e)
