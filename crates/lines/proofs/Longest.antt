-- No line is longer than 128 bytes.
use Prim.Native.Nat.{ℕ, ◌≤◌}
use mathlib.Core.List.{List}
use mathlib.Core.Bool.{cond}
use native.Mathlib.Omega.{arith}
use lib.ListN.{length, length-append}
use Rattle.listener.specs.declared.News.{News}
use Rattle.listener.specs.declared.News.TheVariants as news
use Rattle.odometer.specs.declared.Odometer.{Odometer}
use Rattle.odometer.specs.declared.Heard.{Heard}
use Rattle.odometer.specs.declared.outcomes.Outcome.{Outcome}
use Rattle.odometer.specs.declared.outcomes.Outcome.TheVariants.{Passed, Base, Advanced, Refused}
use Rattle.odometer.specs.Odometer.{distance_of}
use Rattle.std.specs.Prelude.{Option}
use Rattle.std.specs.Result.{result_ok}
use Rattle.fields.specs.declared.Event.TheVariants as event
use Rattle.fields.specs.declared.Fields.{Fields}
use Rattle.fields.specs.Fields.{fields_of, plain_fields}
use Rattle.refusals.specs.Number.{number_of}
use Rattle.lines.specs.Line.{text_of, line_of}
use Rattle.lines.specs.Trip.{base, advanced, refused_with, trip_line, line_of_outcome, line_of_heard}
use Rattle.lines.proofs.Numbers.{decimal_short}
use Rattle.lines.proofs.Texts.{name_short, dash_short}

text_short : (f : Fields) → length (text_of f) ≤ 128
text_short f =
    simp length-append
    (omega (arith, name_short f.event, dash_short f.channel, decimal_short f.bytes, decimal_short f.number, decimal_short f.gap, decimal_short (cond f.dropped 1 0)))

pub line_short : (n : News) → length (line_of n) ≤ 128
line_short news.Nothing = omega arith
line_short (news.Transfer channel held answer) = text_short (fields_of channel held answer)
line_short news.Query = text_short (plain_fields event.Query 0 0)
line_short (news.Notice room) = text_short (plain_fields event.Notice room 0)
line_short (news.Refused refusal) = text_short (plain_fields event.Refused 0 (number_of refusal))

trip_short : (name : List ℕ) (o : Odometer) (carried : Option ℕ) → length name ≤ 28 → length (trip_line name o carried) ≤ 128
trip_short name o carried h =
    simp length-append (omega (arith, dash_short carried, decimal_short o.turns, dash_short (result_ok (distance_of o))))

outcome_short : (outcome : Outcome) (o : Odometer) (carried : Option ℕ) → length (line_of_outcome outcome o carried) ≤ 128
outcome_short Passed o carried = omega arith
outcome_short Base o carried = trip_short base o carried (omega arith)
outcome_short (Advanced turns) o carried = trip_short advanced o carried (omega arith)
outcome_short (Refused refusal) o carried = trip_short (refused_with refusal) o carried (omega (arith, decimal_short (number_of refusal)))

pub trip_line_short : (heard : Heard) → length (line_of_heard heard) ≤ 128
trip_line_short heard = outcome_short heard.outcome heard.odometer heard.carried
