-- A message reader as a row of numbers: its phase, the bytes held; then what was told (kind and value) and, over a
-- slice, the next place.
use Rattle.std.specs.Prelude.{ℕ, cond, List, [], ◌∷◌, ◌++◌, eqb, length, get_or}
use Rattle.refusals.specs.Number as numbers
use Rattle.reader.specs.declared.Phase.{Phase}
use Rattle.reader.specs.declared.Phase.TheVariants.{Outside, Inside, Escaped, Long}
use Rattle.reader.specs.declared.Event.{Event}
use Rattle.reader.specs.declared.Event.TheVariants.{Nothing, Message, Query, Notice, Refused}
use Rattle.reader.specs.declared.Reader.{Reader}
use Rattle.reader.specs.Reader.{number_of, step_of, buffer_after}
use Rattle.reader.specs.Run.{read_from}

-- the phase: 0 before the first flag, 1 inside, 2 right after 0x7D, any other number for a message of which bytes were
-- dropped
unfoldable pub phase_of : ℕ → Phase
phase_of x = cond (eqb x 0) Outside (cond (eqb x 1) Inside (cond (eqb x 2) Escaped Long))

abbrev pub phase_number : Phase → ℕ
phase_number Outside = 0
phase_number Inside = 1
phase_number Escaped = 2
phase_number Long = 3

-- what was told: 0 nothing, 1 a message and its payload's length, 2 a query, 3 a notice and its room, 4 a refusal and
-- its number
abbrev pub event_kind : Event → ℕ
event_kind Nothing = 0
event_kind (Message n) = 1
event_kind Query = 2
event_kind (Notice room) = 3
event_kind (Refused refusal) = 4

abbrev pub event_value : Event → ℕ
event_value Nothing = 0
event_value (Message n) = n
event_value Query = 0
event_value (Notice room) = room
event_value (Refused refusal) = numbers.number_of refusal

-- the reader after a call, and what was told
abbrev pub told : Reader → Event → List ℕ
told reader event = phase_number reader.phase ∷ reader.held ∷ event_kind event ∷ event_value event ∷ []

abbrev pub reader_of : List ℕ → Reader
reader_of row = record { phase = phase_of (get_or row 0 0); held = get_or row 1 0 }

-- a byte: a row of four; one of another length is refused with 23, and nothing changes
unfoldable pub step_number : List ℕ → ℕ → List ℕ → ℕ
step_number row b message = cond (eqb (length row) 4) (number_of (step_of (reader_of row) b message).event) 23

unfoldable pub row_stepped : List ℕ → ℕ → List ℕ → List ℕ
row_stepped row b message =
    let x = step_of (reader_of row) b message in
    cond (eqb (length row) 4) (told x.reader x.event) row

unfoldable pub message_stepped : List ℕ → ℕ → List ℕ → List ℕ
message_stepped row b message = cond (eqb (length row) 4) (buffer_after (reader_of row) b message) message

-- a slice from a place on: a row of five
unfoldable pub read_number : List ℕ → List ℕ → ℕ → List ℕ → ℕ
read_number row input from message =
    cond (eqb (length row) 5) (number_of (read_from (reader_of row) input from message).answer.event) 23

unfoldable pub row_read : List ℕ → List ℕ → ℕ → List ℕ → List ℕ
row_read row input from message =
    let x = (read_from (reader_of row) input from message).answer in
    cond (eqb (length row) 5) (told x.reader x.event ++ x.next ∷ []) row

unfoldable pub message_read : List ℕ → List ℕ → ℕ → List ℕ → List ℕ
message_read row input from message =
    cond (eqb (length row) 5) (read_from (reader_of row) input from message).buffer message
