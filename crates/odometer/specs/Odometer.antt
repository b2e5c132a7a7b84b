-- The odometer (document 02, request 9).
use Rattle.std.specs.Prelude.{ℕ, ◌+◌, ◌-◌, ◌*◌, ◌%◌, ◌^◌, Bool, true, false, cond, not, ◌&&◌, List, ltb, leb, eqb, length, take, Option, None, Some, Result, Ok, Err}
use Rattle.verdict.specs.declared.answers.Answer.{Answer}
use Rattle.verdict.specs.Answer.{delivered_bytes}
use Rattle.verdict.specs.declared.answers.Kind.{Kind}
use Rattle.verdict.specs.declared.answers.Kind.TheVariants.{Delivered, Part, Null, Refused as Refused-kind}
use Rattle.odometer.specs.declared.Odometer.{Odometer}
use Rattle.odometer.specs.declared.Heard.{Heard}
use Rattle.odometer.specs.declared.outcomes.Outcome.{Outcome}
use Rattle.odometer.specs.declared.outcomes.Outcome.TheVariants.{Passed, Base, Advanced, Refused}
use Rattle.refusals.specs.declared.Refusal.{Refusal}
use Rattle.refusals.specs.declared.Refusal.TheVariants.{Circumference, NoTotal, TotalBehind, LongDistance}
use Rattle.refusals.specs.Number.{number_of as number_of_refusal}
use Rattle.odometer.specs.Total.{total_in}

-- ---- the record

-- "a whole number of millimetres from 1 to 10,000"
unfoldable pub in_range : ℕ → Bool
in_range circumference = leb 1 circumference && leb circumference 10000

-- "fixed at the start"
abbrev pub fresh_odometer : (channel circumference : ℕ) → Odometer
fresh_odometer channel circumference =
    record { channel = channel; circumference = circumference; based = false; last = 0; turns = 0 }

-- ---- a total

-- "The first sets a base. Each later one advances by the difference modulo 4,294,967,296"
unfoldable pub advance_of : Odometer → ℕ → ℕ
advance_of o total = cond o.based ((total + 2 ^ 32 - o.last) % 2 ^ 32) 0

abbrev pub advanced : (o : Odometer) (total : ℕ) → Odometer
advanced o total =
    record {
      channel = o.channel;
      circumference = o.circumference;
      based = true;
      last = total;
      turns = o.turns + advance_of o total;
    }

abbrev pub accepted : Bool → ℕ → Outcome
accepted based turns = cond based (Advanced turns) Base

-- "Distance is total turns times the circumference"
abbrev pub millimetres : Odometer → ℕ
millimetres o = o.turns * o.circumference

-- "above 64 bits" it does not fit
unfoldable pub fits : ℕ → Bool
fits n = ltb n (2 ^ 64)

-- "state unchanged", where the cargo carried this
abbrev pub unchanged : (o : Odometer) (outcome : Outcome) (carried : Option ℕ) → Heard
unchanged o outcome carried = record { odometer = o; outcome = outcome; carried = carried }

-- "provided it is below 2,147,483,648"
abbrev pub half_round : ℕ
half_round = 2 ^ 31

-- 41; 42; or the total is taken
unfoldable pub on_total : (o : Odometer) (total : ℕ) → Heard
on_total o total =
    cond (leb half_round (advance_of o total)) (unchanged o (Refused TotalBehind) (Some total))
    (cond (not (fits (millimetres (advanced o total)))) (unchanged o (Refused LongDistance) (Some total))
    record { odometer = advanced o total; outcome = accepted o.based (advance_of o total); carried = Some total })

-- 40, "length or kind"
unfoldable pub on_carried : (o : Odometer) → Option ℕ → Heard
on_carried o None = unchanged o (Refused NoTotal) None
on_carried o (Some total) = on_total o total

-- "Refusals: 39 circumference, .. in that order"; "Other channels are passed over unchanged"
unfoldable pub hear : (o : Odometer) (channel : ℕ) (cargo : List ℕ) → Heard
hear o channel cargo =
    cond (not (in_range o.circumference)) (unchanged o (Refused Circumference) (total_in cargo))
    (cond (not (eqb channel o.channel)) (unchanged o Passed (total_in cargo))
    (on_carried o (total_in cargo)))

-- ---- a receiver's answer

-- nothing was delivered
unfoldable pub pass_over : (o : Odometer) → Heard
pass_over o = cond (in_range o.circumference) (unchanged o Passed None) (unchanged o (Refused Circumference) None)

-- "a caller who gets another kind stops there" (document 01): a delivered cargo is read off the buffer and heard
abbrev pub hear_kind : (o : Odometer) (kind : Kind) (buffer : List ℕ) → Heard
hear_kind o (Delivered channel len) buffer =
    hear o channel (take (delivered_bytes (Delivered channel len) (length buffer)) buffer)
hear_kind o Part buffer = pass_over o
hear_kind o Null buffer = pass_over o
hear_kind o Refused-kind buffer = pass_over o

abbrev pub hear_answer : (o : Odometer) (answer : Answer) (buffer : List ℕ) → Heard
hear_answer o answer buffer = hear_kind o answer.kind buffer

-- ---- what is told

-- the number of each outcome
abbrev pub number_of : Outcome → ℕ
number_of Passed = 0
number_of Base = 0
number_of (Advanced turns) = 0
number_of (Refused refusal) = number_of_refusal refusal

-- 39, 42, or the distance
unfoldable pub distance_of : Odometer → Result ℕ Refusal
distance_of o =
    cond (not (in_range o.circumference)) (Err Circumference)
    (cond (not (fits (millimetres o))) (Err LongDistance)
    (Ok (millimetres o)))
