use Rattle.std.proofs.Common.{◌≡◌, ◌≤◌, length, map}
use Rattle.std.proofs.Math.Seq.{paste}
use Rattle.export.specs.Fields.{counter_number}
use Rattle.export.proofs.places.store_counters.Given as goal

abbrev pub invariant-loop-i : goal.invariant-loop-i
invariant-loop-i l = (l.i ≤ 32) × (length l.row ≡ length l.initial.row) × (length l.counters ≡ 32) × (l.row ≡ paste l.initial.row l.at (map counter_number l.counters) l.i)
