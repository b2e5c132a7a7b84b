use Rattle.std.proofs.Common.{length, ◌-◌, ◌≤◌}
use Rattle.session.proofs.Session.hear.Given as goal

abbrev pub invariant-loop-at : goal.invariant-loop-at
invariant-loop-at g l = l.self.used ≤ length l.out

abbrev pub decreases-loop-at : goal.decreases-loop-at
decreases-loop-at g l = length l.input - l.at
