use Rattle.std.proofs.Common.{ℕ, ◌≡◌}
use Rattle.console.proofs.calls.again.Given as goal

abbrev pub invariant-loop : goal.invariant-loop
invariant-loop g l = goal.F-IsAlwaysCallable g l.call × ((kept : _ → ℕ) → ((s : _) (a : _) (t : _) → goal.F-step g s a t → kept t ≡ kept s) → kept l.call ≡ kept l.fn.call)
