-- P1 to P12 hold of the definitions: every row computes.
use mathlib.Core.List.{[], ◌∷◌, map}
use mathlib.Core.Path.{◌≡◌, refl}
use Rattle.header.specs.Header.{reading_of, reading_of_bytes}
use Rattle.receiver.specs.State.{in_range, fits, sound}
use Rattle.verdict.specs.Judge.{judge, judge_reading, judge_header}
use Rattle.joining.specs.Channel.{is_repeat}
use Rattle.joining.specs.Joining.{carried_of, join, place}
use Rattle.step.specs.Step.{ended, go_on, step_of}
use Rattle.receiver.specs.Take.{step_on}
use Rattle.sender.specs.State.{begun, sound as sound_sender}
use Rattle.sender.specs.Send.{size_of, differs, judge as judge_send, underway_at, out_after}
use Rattle.sender.specs.Whole.{calls, calls_for}
use Rattle.link.specs.Table.{Row, table, TableHolds}

pub table_holds : TableHolds
unfolding reading_of reading_of_bytes in_range fits sound judge judge_reading judge_header is_repeat carried_of join place ended go_on step_of step_on begun sound_sender size_of differs judge_send underway_at out_after calls calls_for
table_holds = refl

-- and none is left out
pub rows : map (λ (x : Row). x.p) table ≡ 1 ∷ 2 ∷ 3 ∷ 4 ∷ 4 ∷ 5 ∷ 6 ∷ 7 ∷ 8 ∷ 9 ∷ 10 ∷ 11 ∷ 12 ∷ []
rows = refl
