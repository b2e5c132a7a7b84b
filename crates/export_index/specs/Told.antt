-- What a question tells, as three numbers.
use Rattle.std.specs.Prelude.{ℕ, List, [], ◌∷◌, Option, None, Some, Result, Ok, Err}
use Rattle.refusals.specs.declared.Refusal.{Refusal}
use Rattle.index.specs.declared.findings.Found.{Found}

-- the kind (0 found, 1 none, 2 refused); then of what is found its place and its length
abbrev pub finding_numbers : Result (Option Found) Refusal → List ℕ
finding_numbers (Ok (Some found)) = 0 ∷ found.place ∷ found.length ∷ []
finding_numbers (Ok None) = 1 ∷ 0 ∷ 0 ∷ []
finding_numbers (Err refusal) = 2 ∷ 0 ∷ 0 ∷ []
