use Rattle.std.proofs.Common.{length, ◌≡◌, ◌+◌, drop}
use Rattle.std.proofs.lemmas.List.Edits.{sets}
use Rattle.writer.specs.Message.{escaped}
use Rattle.writer.proofs.put_all.Given as goal

abbrev pub invariant-loop-b : goal.invariant-loop-b
invariant-loop-b l =
    (length l.out ≡ length l.initial.out)
    × (l.at + length (escaped (drop l.b-index l.payload)) ≡ l.initial.at + length (escaped l.payload))
    × (sets l.out l.at (escaped (drop l.b-index l.payload)) ≡ sets l.initial.out l.initial.at (escaped l.payload))
