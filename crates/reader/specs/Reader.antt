-- The message reader (document 01, "UART messages": "Reading, a byte at a time"; document 02, request 3).
use Rattle.std.specs.Prelude.{ℕ, ◌+◌, ◌*◌, ◌-◌, List, Bool, cond, ltb, eqb, length, get_or, set}
use Rattle.reader.specs.declared.Phase.{Phase}
use Rattle.reader.specs.declared.Phase.TheVariants.{Outside, Inside, Escaped, Long}
use Rattle.reader.specs.declared.Event.{Event}
use Rattle.reader.specs.declared.Event.TheVariants.{Nothing, Message, Query, Notice, Refused}
use Rattle.reader.specs.declared.Reader.{Reader}
use Rattle.reader.specs.declared.Stepped.{Stepped}
use Rattle.refusals.specs.declared.Refusal.TheVariants.{Unsound, UnknownId, FlagAfterEscape, LongMessage, ControlPayload}
use Rattle.refusals.specs.Number as numbers
use Rattle.writer.specs.Message.{flag, escape, turned}

-- the answer's number (document 01, "Answer numbers"): 0 where nothing was refused
abbrev pub number_of : Event → ℕ
number_of Nothing = 0
number_of (Message length) = 0
number_of Query = 0
number_of (Notice room) = 0
number_of (Refused refusal) = numbers.number_of refusal

-- before the first flag of a stream
abbrev pub outside : Reader
outside = record { phase = Outside; held = 0 }

-- the message goes on, in this phase and with so many bytes held
abbrev pub goes_on : Phase → ℕ → Stepped
goes_on phase held = record { reader = record { phase = phase; held = held }; event = Nothing }

-- "every flag closes what precedes it and opens what follows": inside, with nothing held
abbrev pub opened : Reader
opened = record { phase = Inside; held = 0 }

-- "ID 0 with no payload is a Buffer Status Query, with two bytes a Notification, low byte first"; 33
unfoldable pub control : ℕ → List ℕ → Event
control held buf =
    cond (eqb held 1) Query
    (cond (eqb held 3) (Notice (get_or buf 1 0 + 256 * get_or buf 2 0))
    (Refused ControlPayload))

-- "The lent buffer holds ID and payload": 30, a message with ID 1 and its payload's length, or a control message
unfoldable pub message_of : ℕ → List ℕ → Event
message_of held buf =
    cond (ltb 1 (get_or buf 0 0)) (Refused UnknownId)
    (cond (eqb (get_or buf 0 0) 1) (Message (held - 1))
    (control held buf))

-- what a flag closes: nothing before the first; "nothing between two flags is no message"; "in order: 32, 31, 30, 33."
unfoldable pub at_flag : Phase → ℕ → List ℕ → Event
at_flag Outside held buf = Nothing
at_flag Long held buf = Refused LongMessage
at_flag Escaped held buf = Refused FlagAfterEscape
at_flag Inside held buf = cond (eqb held 0) Nothing (message_of held buf)

-- "a byte that doesn't fit is dropped"
unfoldable pub storing : ℕ → ℕ → Stepped
storing held room = cond (ltb held room) (goes_on Inside (held + 1)) (goes_on Long held)

unfoldable pub stored : ℕ → ℕ → List ℕ → List ℕ
stored b held buf = cond (ltb held (length buf)) (set buf held b) buf

-- another byte: "outside a message only a flag matters"; a dropped byte's "later ones to the closing flag" are dropped
unfoldable pub at_byte : Phase → ℕ → ℕ → ℕ → Stepped
at_byte Outside held b room = goes_on Outside held
at_byte Long held b room = goes_on Long held
at_byte Escaped held b room = storing held room
at_byte Inside held b room = cond (eqb b escape) (goes_on Escaped held) (storing held room)

-- "After 0x7D a byte b other than a flag means b XOR 0x20."
unfoldable pub buffer_at : Phase → ℕ → ℕ → List ℕ → List ℕ
buffer_at Outside held b buf = buf
buffer_at Long held b buf = buf
buffer_at Escaped held b buf = stored (turned b) held buf
buffer_at Inside held b buf = cond (eqb b escape) buf (stored b held buf)

-- "A reader's state is sound if no more bytes are held than the buffer has; otherwise 23."
abbrev pub unsound : Reader → List ℕ → Bool
unsound r buf = ltb (length buf) r.held

-- a byte; every flag leaves the reader open
unfoldable pub step_of : Reader → ℕ → List ℕ → Stepped
step_of r b buf =
    cond (unsound r buf) record { reader = r; event = Refused Unsound }
    (cond (eqb b flag) record { reader = opened; event = at_flag r.phase r.held buf }
    (at_byte r.phase r.held b (length buf)))

-- and the lent buffer after it
unfoldable pub buffer_after : Reader → ℕ → List ℕ → List ℕ
buffer_after r b buf =
    cond (unsound r buf) buf
    (cond (eqb b flag) buf
    (buffer_at r.phase r.held b buf))
