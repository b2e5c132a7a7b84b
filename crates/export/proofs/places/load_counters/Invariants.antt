use Rattle.std.proofs.Common.{◌≡◌, ◌≤◌, length, map, take, drop}
use Rattle.export.specs.Fields.{counter_of}
use Rattle.export.proofs.places.load_counters.Given as goal

abbrev pub invariant-loop-i : goal.invariant-loop-i
invariant-loop-i l = (l.i ≤ 32) × (length l.counters ≡ 32) × (take l.i l.counters ≡ map counter_of (take l.i (drop l.at l.row)))
