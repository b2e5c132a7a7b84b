-- What a receiver does with a transfer (document 01, "The receiver"): the step of the transfer's channel.
use Rattle.std.specs.Prelude.{ℕ, List, length, Result, Ok, Err}
use Rattle.verdict.specs.declared.answers.Answer.{Answer}
use Rattle.step.specs.declared.steps.Went.{Went}
use Rattle.step.specs.Step.{step_in, bytes_in, channel_of}
use Rattle.receiver.specs.declared.Receiver.{Receiver}
use Rattle.receiver.specs.declared.Received.{Received}
use Rattle.receiver.specs.State.{sound_receiver, channel_at, with_channel}

unfoldable pub step_on : (r : Receiver) (t : List ℕ) (room : ℕ) → Result Went Answer
step_on r t room = step_in (sound_receiver r) r.settings r.underway (channel_at r (channel_of t)) t room

abbrev pub received_by : (r : Receiver) (i : ℕ) → Result Went Answer → Received
received_by r i (Err answer) = record { receiver = r; answer = answer }
received_by r i (Ok w) = record { receiver = with_channel r i w.channel w.underway; answer = w.answer }

-- a transfer taken, where the lent buffer has room bytes; and that buffer after it
abbrev pub receive : (r : Receiver) (t : List ℕ) (room : ℕ) → Received
receive r t room = received_by r (channel_of t) (step_on r t room)

abbrev pub cargo_after : (r : Receiver) (t d : List ℕ) → List ℕ
cargo_after r t d = bytes_in (step_on r t (length d)) t d
