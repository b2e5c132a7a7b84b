-- What a line of the listing tells of a piece of news (document 01, the listing program).
use Rattle.std.specs.Prelude.{ℕ, Bool, cond, false, ◌||◌, eqb, Option, None, Some}
use Rattle.verdict.specs.declared.answers.Answer.{Answer}
use Rattle.verdict.specs.declared.answers.Kind.{Kind}
use Rattle.verdict.specs.declared.answers.Kind.TheVariants as kind
use Rattle.fields.specs.declared.Event.{Event}
use Rattle.fields.specs.declared.Event.TheVariants.{Cargo, Part, Null, Refused}
use Rattle.fields.specs.declared.Fields.{Fields}

-- "The events are `cargo`, `part`, `null`, `query`, `notice` and `refused`": those of a receiver's answer
abbrev pub event_of : Kind → Event
event_of (kind.Delivered channel len) = Cargo
event_of kind.Part = Part
event_of kind.Null = Null
event_of kind.Refused = Refused

-- "Bytes are the cargo length for `cargo`, bytes held for `part`, .. else 0."
abbrev pub bytes_of : Kind → (held : ℕ) → ℕ
bytes_of (kind.Delivered channel len) held = len
bytes_of kind.Part held = held
bytes_of kind.Null held = 0
bytes_of kind.Refused held = 0

-- "answers 9, 20, 21"
unfoldable pub names_channel : (number : ℕ) → Bool
names_channel number = eqb number 9 || eqb number 20 || eqb number 21

unfoldable pub refused_channel : (number channel : ℕ) → Option ℕ
refused_channel number channel = cond (names_channel number) (Some channel) None

-- "Channel is `-` except for `cargo`, `part` and answers 9, 20, 21": the cargo's, or the transfer's
abbrev pub channel_shown : Kind → (number channel : ℕ) → Option ℕ
channel_shown (kind.Delivered cargo's len) number channel = Some cargo's
channel_shown kind.Part number channel = Some channel
channel_shown kind.Null number channel = None
channel_shown kind.Refused number channel = refused_channel number channel

-- what the kind says, and number, gap and loss as answered
abbrev pub told : (event : Event) (shown : Option ℕ) (count : ℕ) (answer : Answer) → Fields
told event shown count answer =
    record {
      event = event;
      channel = shown;
      bytes = count;
      number = answer.number;
      gap = answer.gap;
      dropped = answer.dropped;
    }

-- the answer to a transfer on this channel, after which so many bytes of the cargo under way are held
abbrev pub fields_of : (channel held : ℕ) (answer : Answer) → Fields
fields_of channel held answer =
    let k = answer.kind in
    told (event_of k) (channel_shown k answer.number channel) (bytes_of k held) answer

-- an event with no channel and no gap: what the reader tells, "room for `notice`, else 0"
abbrev pub plain_fields : (event : Event) (bytes number : ℕ) → Fields
plain_fields event bytes number =
    record { event = event; channel = None; bytes = bytes; number = number; gap = 0; dropped = false }
