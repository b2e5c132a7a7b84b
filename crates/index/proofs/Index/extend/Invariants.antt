use Rattle.std.proofs.Common.{◌≡◌, ◌-◌, ◌≤◌, length}
use Rattle.index.specs.Grow.{walked, extended}
use Rattle.index.proofs.Index.extend.Given as goal

abbrev pub invariant-loop-entry : goal.invariant-loop-entry
invariant-loop-entry l = (l.self.count ≤ 64) × (walked l.self l.cargo ≡ extended l.fn.self l.cargo)

abbrev pub decreases-loop-entry : goal.decreases-loop-entry
decreases-loop-entry l = length l.cargo - l.self.next
