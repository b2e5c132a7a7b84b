use Rattle.std.proofs.Common.{◌≡◌, ◌≤◌, length}
use Rattle.export.proofs.Channels.{stored}
use Rattle.export.proofs.receivers.store_channels.Given as goal

abbrev pub invariant-loop-i : goal.invariant-loop-i
invariant-loop-i l = (l.i ≤ 32) × (length l.row ≡ length l.initial.row) × (length l.channel-items ≡ 32) × (l.row ≡ stored l.initial.row l.channel-items l.i)
