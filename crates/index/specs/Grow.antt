-- An index that grows by the entries of an advertisement (document 02, request 1).
use Rattle.std.specs.Prelude.{ℕ, ◌+◌, cond, not, List, [], ◌∷◌, nat_lt, length, set, Result, Ok, Err}
use Rattle.std.specs.Result.{result_unwrap_or}
use Rattle.advert.specs.Entry.{EntryAnswer}
use Rattle.advert.specs.Walk.{place_after, entries_from, end_from}
use Rattle.refusals.specs.declared.Refusal.{Refusal}
use Rattle.refusals.specs.declared.Refusal.TheVariants.{Unsound, FullIndex}
use Rattle.index.specs.Index.{most_entries, slot_of, empty_at, sound}
use Rattle.index.specs.declared.Index.{Index}

-- an entry added "without touching the earlier ones"
abbrev pub added : Index → EntryAnswer → Index
added index e =
    record {
      tags = set index.tags index.count (slot_of e).tag;
      places = set index.places index.count (slot_of e).place;
      lengths = set index.lengths index.count (slot_of e).size;
      count = index.count + 1;
      next = place_after e index.next;
    }

abbrev pub added_all : Index → List EntryAnswer → Index
added_all index [] = index
added_all index (e ∷ entries) = added_all (added index e) entries

-- the index where the walk ends so, and 34 or 35 where it ends by that
abbrev pub ended : Index → EntryAnswer → Result Index Refusal
ended index (Ok end) = Ok index
ended index (Err refusal) = Err refusal

-- the walk from its next place on, all entries added, or "entry by entry, the first of 34, 35 and 38 for a 65th". The
-- 65th is met before the answer that ends the walk.
unfoldable pub walked : Index → List ℕ → Result Index Refusal
walked index cargo =
    let entries = entries_from cargo index.next in
    cond (nat_lt most_entries (index.count + length entries)) (Err FullIndex)
    (ended (added_all index entries) (end_from cargo index.next))

-- "Refusals: 23 .., then .."
unfoldable pub extended : Index → List ℕ → Result Index Refusal
extended index cargo = cond (not (sound index (length cargo))) (Err Unsound) (walked index cargo)

abbrev pub built : List ℕ → ℕ → Result Index Refusal
built cargo place = extended (empty_at place) cargo

-- the index after a call: "the index stays empty or, when adding, as it was"
abbrev pub unless_refused : Index → Result Index Refusal → Index
unless_refused index answer = result_unwrap_or answer index

abbrev pub after_call : Index → List ℕ → Index
after_call index cargo = unless_refused index (extended index cargo)
