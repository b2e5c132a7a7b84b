-- The run with 43, 44 and 45, computed.
use mathlib.Core.Path.{refl}
use Rattle.receiver.specs.State.{in_range, fits, sound}
use Rattle.sender.specs.State.{begun, sound as sound_sender}
use Rattle.sender.specs.Send.{size_of, differs, judge, underway_at}
use Rattle.writer.specs.Message as uart
use Rattle.permit.specs.Permit.{heard, refusal, ended}
use Rattle.permit.specs.Send.{transfers, messages, output}
use Rattle.permitted.specs.Run.{heard_all, try_one, try_all, fates_by, ship, run, plain}
use Rattle.permitted.specs.Example.{answers, Runs}

pub transfers_run : Runs transfers
unfolding in_range fits sound begun sound_sender size_of differs judge underway_at heard refusal ended output heard_all try_one try_all fates_by ship run plain answers
transfers_run = record { numbers = refl; written = refl }

pub messages_run : Runs messages
unfolding in_range fits sound begun sound_sender size_of differs judge underway_at uart.sent uart.escaped uart.write_answer heard refusal ended output heard_all try_one try_all fates_by ship run plain answers
messages_run = record { numbers = refl; written = refl }
