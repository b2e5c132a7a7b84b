-- The reader above a receiver (document 01, "UART messages").
use Rattle.std.specs.Prelude.{ℕ, List, take, drop}
use Rattle.refusals.specs.Number.{number_of}
use Rattle.joining.specs.Joining.{held_of}
use Rattle.step.specs.Step.{channel_of}
use Rattle.receiver.specs.declared.Receiver.{Receiver}
use Rattle.receiver.specs.declared.Received.{Received}
use Rattle.receiver.specs.Take.{receive, cargo_after}
use Rattle.reader.specs.declared.Event.{Event}
use Rattle.reader.specs.declared.Event.TheVariants as events
use Rattle.listener.specs.declared.Listener.{Listener}
use Rattle.listener.specs.declared.News.{News}
use Rattle.listener.specs.declared.News.TheVariants.{Nothing, Transfer, Query, Notice, Refused}
use Rattle.listener.specs.declared.Handed.{Handed}
use Rattle.listener.specs.declared.HeardByte.{HeardByte}
use Rattle.listener.specs.declared.Listened.{Listened}
use Rattle.reader.specs.Reader.{step_of, buffer_after}
use Rattle.reader.specs.Run.{read_from}

-- the answer's number (document 01, "Answer numbers"): the receiver's where a transfer was handed on
abbrev pub news_number : News → ℕ
news_number Nothing = 0
news_number (Transfer channel held answer) = answer.number
news_number Query = 0
news_number (Notice room) = 0
news_number (Refused refusal) = number_of refusal

-- "The lent buffer holds ID and payload"
abbrev pub payload_of : (length : ℕ) (message : List ℕ) → List ℕ
payload_of length message = take length (drop 1 message)

-- the receiver after a transfer, and what is told of it
abbrev pub transferred : (t : List ℕ) → Received → Handed
transferred t x =
    record {
      receiver = x.receiver;
      news = Transfer (channel_of t) (held_of x.receiver.underway) x.answer;
    }

-- "ID 1 hands the payload to the receiver": the receiver after it, where its cargo buffer has room bytes
unfoldable pub handed : (rx : Receiver) (event : Event) (message : List ℕ) (room : ℕ) → Handed
handed rx events.Nothing message room = record { receiver = rx; news = Nothing }
handed rx (events.Message length) message room =
    let t = payload_of length message in
    transferred t (receive rx t room)
handed rx events.Query message room = record { receiver = rx; news = Query }
handed rx (events.Notice available) message room = record { receiver = rx; news = Notice available }
handed rx (events.Refused refusal) message room = record { receiver = rx; news = Refused refusal }

-- and that buffer after it
unfoldable pub cargo_handed : (rx : Receiver) (event : Event) (message cargo : List ℕ) → List ℕ
cargo_handed rx events.Nothing message cargo = cargo
cargo_handed rx (events.Message length) message cargo = cargo_after rx (payload_of length message) cargo
cargo_handed rx events.Query message cargo = cargo
cargo_handed rx (events.Notice available) message cargo = cargo
cargo_handed rx (events.Refused refusal) message cargo = cargo

-- a byte: the reader's step, and its event handed on; the reader is then open, also where the receiver refuses
abbrev pub hear : (l : Listener) (b : ℕ) (message : List ℕ) (room : ℕ) → HeardByte
hear l b message room =
    let s = step_of l.reader b message in
    let h = handed l.receiver s.event (buffer_after l.reader b message) room in
    record { listener = record { reader = s.reader; receiver = h.receiver }; news = h.news }

abbrev pub cargo_heard : (l : Listener) (b : ℕ) (message cargo : List ℕ) → List ℕ
cargo_heard l b message cargo =
    cargo_handed l.receiver (step_of l.reader b message).event (buffer_after l.reader b message) cargo

-- a slice from a place on: the reader's run, and its event handed on
abbrev pub listen : (l : Listener) (input : List ℕ) (from : ℕ) (message : List ℕ) (room : ℕ) → Listened
listen l input from message room =
    let x = read_from l.reader input from message in
    let h = handed l.receiver x.answer.event x.buffer room in
    record {
      listener = record { reader = x.answer.reader; receiver = h.receiver };
      next = x.answer.next;
      news = h.news;
    }

abbrev pub cargo_listened : (l : Listener) (input : List ℕ) (from : ℕ) (message cargo : List ℕ) → List ℕ
cargo_listened l input from message cargo =
    let x = read_from l.reader input from message in
    cargo_handed l.receiver x.answer.event x.buffer cargo
