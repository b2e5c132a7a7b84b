-- What an event of the reader does to a receiver's channel and cargo under way: for loops that hold a receiver's parts.
use Rattle.std.specs.Prelude.{ℕ, ◌%◌, Bool, cond, List, [], ltb, length, Option}
use Rattle.verdict.specs.declared.Settings.{Settings}
use Rattle.joining.specs.declared.Cargo.{Cargo}
use Rattle.joining.specs.declared.channels.Channel.{Channel}
use Rattle.step.specs.declared.steps.Taken.{Taken}
use Rattle.joining.specs.Joining.{held_of}
use Rattle.step.specs.Step as steps
use Rattle.reader.specs.declared.Event.{Event}
use Rattle.reader.specs.declared.Event.TheVariants as events
use Rattle.listener.specs.declared.News.TheVariants.{Nothing, Transfer, Query, Notice, Refused}
use Rattle.listener.specs.Listen.{payload_of}
use Rattle.parts.specs.declared.HandedIn.{HandedIn}

-- "The lent buffer holds ID and payload"; none where it is too short for it
unfoldable pub payload_in : (n : ℕ) (message : List ℕ) → List ℕ
payload_in n message = cond (ltb n (length message)) (payload_of n message) []

-- the place of the channel that an event is for
unfoldable pub channel_in : (event : Event) (message : List ℕ) → ℕ
channel_in events.Nothing message = 0
channel_in (events.Message n) message = steps.channel_of (payload_in n message) % 32
channel_in events.Query message = 0
channel_in (events.Notice room) message = 0
channel_in (events.Refused refusal) message = 0

module _ (sound : Bool) (settings : Settings) (underway : Option Cargo) (c : Channel) where
  -- what a step left of the channel and of the cargo under way, and the news, for a transfer on the channel i
  abbrev pub leaves : (i : ℕ) → Taken → HandedIn
  leaves i x =
      record {
        channel = x.channel;
        underway = x.underway;
        news = Transfer i (held_of x.underway) x.answer;
      }

  abbrev pub take_in : (t : List ℕ) (room : ℕ) → HandedIn
  take_in t room = leaves (steps.channel_of t) (steps.taken_by c underway (steps.step_in sound settings underway c t room))

  abbrev pub bytes_in : (t cargo : List ℕ) → List ℕ
  bytes_in t cargo = steps.bytes_in (steps.step_in sound settings underway c t (length cargo)) t cargo

  -- "ID 1 hands the payload to the receiver"; any other event leaves its channel and the cargo under way
  unfoldable pub hand_in : (event : Event) (message : List ℕ) (room : ℕ) → HandedIn
  hand_in events.Nothing message room = record { channel = c; underway = underway; news = Nothing }
  hand_in (events.Message n) message room = take_in (payload_in n message) room
  hand_in events.Query message room = record { channel = c; underway = underway; news = Query }
  hand_in (events.Notice available) message room = record { channel = c; underway = underway; news = Notice available }
  hand_in (events.Refused refusal) message room = record { channel = c; underway = underway; news = Refused refusal }

  -- and the cargo buffer after it
  unfoldable pub cargo_in : (event : Event) (message cargo : List ℕ) → List ℕ
  cargo_in events.Nothing message cargo = cargo
  cargo_in (events.Message n) message cargo = bytes_in (payload_in n message) cargo
  cargo_in events.Query message cargo = cargo
  cargo_in (events.Notice available) message cargo = cargo
  cargo_in (events.Refused refusal) message cargo = cargo
