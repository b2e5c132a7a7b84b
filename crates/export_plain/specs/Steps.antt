-- One channel as four numbers, and the cargo under way as four: what a transfer does to them.
use Rattle.std.specs.Prelude.{ℕ, List, get_or, Result}
use Rattle.verdict.specs.Judge.{settings_of}
use Rattle.verdict.specs.declared.answers.Answer.{Answer}
use Rattle.joining.specs.declared.channels.Channel.{Channel}
use Rattle.step.specs.declared.steps.Went.{Went}
use Rattle.step.specs.declared.steps.Taken.{Taken}
use Rattle.step.specs.Step.{step_in, taken_by}
use Rattle.receiver.specs.State.{sound}
use Rattle.export.specs.Fields.{channel_from}
use Rattle.export_plain.specs.Answers.{underway_in}

abbrev pub channel_in : (numbers : List ℕ) → Channel
channel_in n = channel_from (get_or n 0 0) (get_or n 1 0) (get_or n 2 0) (get_or n 3 0)

-- a transfer's step, where the lent cargo buffer has room bytes
abbrev pub step : (limit count : ℕ) (underway channel t : List ℕ) (room : ℕ) → Result Went Answer
step limit count underway channel t room =
    let settings = settings_of limit count in
    step_in (sound settings (underway_in underway)) settings (underway_in underway) (channel_in channel) t room

abbrev pub stepped : (limit count : ℕ) (underway channel t : List ℕ) (room : ℕ) → Taken
stepped limit count underway channel t room =
    taken_by (channel_in channel) (underway_in underway) (step limit count underway channel t room)
