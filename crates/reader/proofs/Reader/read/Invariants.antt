use Rattle.std.proofs.Common.{◌≡◌, ◌-◌, length}
use Rattle.reader.specs.Run.{read_from}
use Rattle.reader.proofs.Reader.read.Given as goal

abbrev pub invariant-loop-from : goal.invariant-loop-from
invariant-loop-from l =
    (length l.buf ≡ length l.initial.buf) × (read_from l.self l.input l.from l.buf ≡ read_from l.initial.self l.input l.initial.from l.initial.buf)

abbrev pub decreases-loop-from : goal.decreases-loop-from
decreases-loop-from l = length l.input - l.from
