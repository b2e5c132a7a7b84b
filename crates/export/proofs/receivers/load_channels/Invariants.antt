use Rattle.std.proofs.Common.{◌≡◌, ◌≤◌, length, take}
use Rattle.export.specs.Receivers.{channels_in}
use Rattle.export.proofs.receivers.load_channels.Given as goal

abbrev pub invariant-loop-i : goal.invariant-loop-i
invariant-loop-i l = (l.i ≤ 32) × (length l.channels ≡ 32) × (take l.i l.channels ≡ channels_in l.row l.i)
