use Rattle.std.proofs.Common.{◌≡◌, ◌≤◌, length, map}
use Rattle.std.proofs.Math.Seq.{paste}
use Rattle.receiver.specs.Counts as counts
use Rattle.receiver.proofs.counts.copy_field.Given as goal

abbrev pub invariant-loop-j : goal.invariant-loop-j
invariant-loop-j l = (l.j ≤ l.count) × (length l.row ≡ length l.initial.row) × (length l.channels ≡ 32) × (l.row ≡ paste l.initial.row l.at (map (counts.field_of l.repeats) l.channels) l.j)
