use Rattle.std.proofs.Common.{◌≡◌, ◌≤◌, drop}
use Rattle.arguments.specs.Number.{number_in, number_from}
use Rattle.arguments.proofs.number_in.Given as goal

abbrev pub invariant-loop-digit : goal.invariant-loop-digit
invariant-loop-digit l =
    (l.number ≤ l.most) × (number_in l.least l.most l.text ≡ number_from l.least l.most l.number (drop l.digit-index l.text))
