use Rattle.std.proofs.Common.{◌≡◌, ℕ, ◌≤◌, ◌<◌, length}
use Rattle.export.specs.Receivers.{channel_in, channels_in}
use Rattle.export.proofs.Channels.{stored}
use Rattle.export.proofs.receivers.settle.Given as goal

abbrev pub invariant-loop-i : goal.invariant-loop-i
invariant-loop-i l =
    (l.i ≤ 32) × (length l.row ≡ length l.initial.row) × (l.row ≡ stored l.initial.row (channels_in l.initial.row 32) l.i)
    × ((j : ℕ) → l.i ≤ j → j < 32 → channel_in l.row j ≡ channel_in l.initial.row j)
