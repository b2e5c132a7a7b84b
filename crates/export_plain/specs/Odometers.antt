-- An odometer as five numbers: its channel, its circumference, whether a base is set, the last total and the turns.
-- Every such row is some odometer.
use Rattle.std.specs.Prelude.{ℕ, List, [], ◌∷◌, get_or, Result}
use Rattle.std.specs.Option.{ok_or}
use Rattle.odometer.specs.declared.Odometer.{Odometer}
use Rattle.odometer.specs.declared.outcomes.Outcome.{Outcome}
use Rattle.odometer.specs.declared.outcomes.Outcome.TheVariants.{Passed, Base, Advanced, Refused}
use Rattle.odometer.specs.Total.{total_in}
use Rattle.refusals.specs.declared.Refusal.{Refusal}
use Rattle.refusals.specs.declared.Refusal.TheVariants.{NoTotal}
use Rattle.export.specs.Fields as fields

abbrev pub odometer_of : List ℕ → Odometer
odometer_of row =
    record {
      channel = get_or row 0 0;
      circumference = get_or row 1 0;
      based = fields.flag_of (get_or row 2 0);
      last = fields.count_of (get_or row 3 0);
      turns = get_or row 4 0;
    }

abbrev pub odometer_numbers : Odometer → List ℕ
odometer_numbers o =
    o.channel ∷ o.circumference ∷ fields.flag_number o.based ∷ fields.count_number o.last ∷ o.turns ∷ []

-- the outcome (0 passed over, 1 base, 2 advanced, 3 refused) and by how many turns it advanced
abbrev pub outcome_numbers : Outcome → List ℕ
outcome_numbers Passed = 0 ∷ 0 ∷ []
outcome_numbers Base = 1 ∷ 0 ∷ []
outcome_numbers (Advanced turns) = 2 ∷ turns ∷ []
outcome_numbers (Refused refusal) = 3 ∷ 0 ∷ []

-- 40: "length or kind"
abbrev pub carried_in : List ℕ → Result ℕ Refusal
carried_in cargo = ok_or (total_in cargo) NoTotal
