-- The question is the one that is left: at those from the i-th on, for the one that has so many others before it.
use Rattle.std.proofs.Common.{◌≡◌, ◌≤◌, map}
use Rattle.std.specs.Prelude.{slice_get}
use Rattle.index.specs.Index.{slot_tag, of_parts, listed}
use Rattle.index.specs.Find.{with_tag, found_at, occurrence}
use Rattle.index.proofs.Listing.{left}
use Rattle.index.proofs.Parts.find.Given as goal

abbrev pub invariant-loop-i : goal.invariant-loop-i
invariant-loop-i l =
    (l.self.count ≤ 64)
    × (slice_get (map found_at (with_tag slot_tag l.tag (left (of_parts l.self) l.i))) l.before ≡ occurrence l.occurrence (with_tag slot_tag l.tag (listed (of_parts l.self))))
