-- The lines of the trip as bytes: what an odometer made of each cargo on its channel (document 02, request 9, and our
-- reading of it).
use Rattle.std.specs.Prelude.{ℕ, List, [], ◌∷◌, ◌++◌, Option, Result}
use Rattle.odometer.specs.declared.Odometer.{Odometer}
use Rattle.odometer.specs.declared.Heard.{Heard}
use Rattle.odometer.specs.declared.outcomes.Outcome.{Outcome}
use Rattle.odometer.specs.declared.outcomes.Outcome.TheVariants.{Passed, Base, Advanced, Refused}
use Rattle.std.specs.Result.{result_ok}
use Rattle.refusals.specs.declared.Refusal.{Refusal}
use Rattle.refusals.specs.Number.{number_of}
use Rattle.odometer.specs.Odometer.{distance_of}
use Rattle.lines.specs.Text.{bytes}
use Rattle.lines.specs.Decimal.{decimal}
use Rattle.fields.specs.declared.Event.TheVariants as event
use Rattle.lines.specs.Line.{row, name_of, or_dash}

-- event, total, turns, millimetres
abbrev pub trip_heading : List ℕ
trip_heading =
    row (bytes "event")
    (bytes "total" ∷ bytes "turns" ∷ bytes "millimetres" ∷ [])

-- `-` for the total of a cargo that carries none
abbrev pub total_text : Option ℕ → List ℕ
total_text carried = or_dash carried

-- `-` for a distance that is not told
abbrev pub distance_text : Result ℕ Refusal → List ℕ
distance_text distance = or_dash (result_ok distance)

-- what follows the event, in the heading's order: the turns and the distance are those after the cargo
abbrev pub standing : (o : Odometer) (carried : Option ℕ) → List ℕ
standing o carried = row (total_text carried) (decimal o.turns ∷ distance_text (distance_of o) ∷ [])

-- a line, from its event
abbrev pub trip_line : (event : List ℕ) (o : Odometer) (carried : Option ℕ) → List ℕ
trip_line event o carried = event ++ 9 ∷ standing o carried

abbrev pub base : List ℕ
base = bytes "base"

abbrev pub advanced : List ℕ
advanced = bytes "advanced"

-- `refused-` and the refusal's number
abbrev pub refused_with : Refusal → List ℕ
refused_with refusal = name_of event.Refused ++ bytes "-" ++ decimal (number_of refusal)

-- a cargo passed over gives no line
abbrev pub line_of_outcome : Outcome → (o : Odometer) (carried : Option ℕ) → List ℕ
line_of_outcome Passed o carried = []
line_of_outcome Base o carried = trip_line base o carried
line_of_outcome (Advanced turns) o carried = trip_line advanced o carried
line_of_outcome (Refused refusal) o carried = trip_line (refused_with refusal) o carried

abbrev pub line_of_heard : (heard : Heard) → List ℕ
line_of_heard heard = line_of_outcome heard.outcome heard.odometer heard.carried
