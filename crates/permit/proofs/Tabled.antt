-- The table holds.
use mathlib.Core.Path.{refl}
use Rattle.receiver.specs.State.{in_range, fits, sound}
use Rattle.sender.specs.State.{begun, sound as sound_sender}
use Rattle.sender.specs.Send.{size_of, differs, judge, underway_at}
use Rattle.writer.specs.Message.{sent, escaped, write_answer}
use Rattle.permit.specs.Permit.{ended, refusal}
use Rattle.permit.specs.Table.{Table}

pub table_holds : Table
unfolding in_range fits sound begun sound_sender size_of differs judge underway_at escaped sent write_answer ended refusal
table_holds =
    record {
      just_room = refl;
      no_room = refl;
      just_rest = refl;
      no_rest = refl;
      in_time = refl;
      too_late = refl;
      earlier = refl;
      far_earlier = refl;
      at_the_end = refl;
      none = refl;
      ended_first = refl;
      own_first = refl;
      just_message = refl;
      short_message = refl;
      message_first = refl;
      no_message = refl;
      at_once = refl;
      not_at_once = refl;
    }
