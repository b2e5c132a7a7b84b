use Rattle.std.proofs.Common.{◌≡◌, ◌≤◌, length, map}
use Rattle.std.proofs.Math.Seq.{paste}
use Rattle.receiver.specs.Counts as counts
use Rattle.receiver.proofs.counts.clear.Given as goal

abbrev pub invariant-loop-j : goal.invariant-loop-j
invariant-loop-j l = (l.j ≤ 32) × (length l.channels ≡ 32) × (length l.initial.channels ≡ 32) × (l.channels ≡ paste l.initial.channels 0 (map counts.cleared_channel l.initial.channels) l.j)
