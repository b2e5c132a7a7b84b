-- The run in which two halves are joined that do not belong together.
use Rattle.std.specs.Prelude.{ℕ, List, [], ◌∷◌}
use Rattle.mileage.specs.Wheel.{Sent, total}

-- the wheel turns twice; the second half of one total is lost, and the first half of the next
abbrev pub twice : List (Sent (List ℕ))
twice = total 16777214 (1 ∷ 1 ∷ []) ∷ total 16777215 (1 ∷ 0 ∷ []) ∷ total 16777216 (0 ∷ 1 ∷ []) ∷ []
