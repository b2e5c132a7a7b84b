use Rattle.std.proofs.Common.{◌≡◌, false, take}
use Rattle.writer.specs.Message.{escapes}
use Rattle.reader.proofs.plain.are_plain.Given as goal

abbrev pub invariant-loop-b : goal.invariant-loop-b
invariant-loop-b l = l.any ≡ false → escapes (take l.b-index l.bytes) ≡ 0
