use Rattle.std.proofs.Common.{◌≤◌, length}
use Rattle.session.proofs.run.Given as goal

abbrev pub invariant-loop : goal.invariant-loop
invariant-loop g l = l.session.used ≤ length l.out
