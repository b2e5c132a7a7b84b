-- They are as sound as those that are left.
use Rattle.std.proofs.Common.{◌≡◌}
use Rattle.index.specs.Index.{of_parts, listed, all_within}
use Rattle.index.proofs.Listing.{left}
use Rattle.index.proofs.Parts.is_sound.Given as goal

abbrev pub invariant-loop-i : goal.invariant-loop-i
invariant-loop-i l = all_within l.bytes (left (of_parts l.self) l.i) ≡ all_within l.bytes (listed (of_parts l.self))
