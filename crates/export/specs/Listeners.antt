-- A listener as a row of 145 numbers: the receiver's 134; what its last answer told (six numbers, all 0 where none was
-- asked); then the reader's phase, the bytes held, what was told (kind and value) and the next place.
use Rattle.std.specs.Prelude.{ℕ, cond, List, [], ◌∷◌, ◌++◌, eqb, length, get_or}
use Rattle.refusals.specs.Number.{number_of}
use Rattle.listener.specs.declared.Listener.{Listener}
use Rattle.listener.specs.declared.Listened.{Listened}
use Rattle.listener.specs.declared.News.{News}
use Rattle.listener.specs.declared.News.TheVariants.{Nothing, Transfer, Query, Notice, Refused}
use Rattle.reader.specs.Run.{read_from}
use Rattle.listener.specs.Listen.{news_number, listen, cargo_listened}
use Rattle.export.specs.Receivers.{receiver_of, receiver_numbers, answer_numbers}
use Rattle.export.specs.Readers.{phase_of, phase_number}

abbrev pub listener_of : List ℕ → Listener
listener_of row =
    record { reader = record { phase = phase_of (get_or row 140 0); held = get_or row 141 0 }; receiver = receiver_of row }

abbrev pub news_answer : News → List ℕ
news_answer Nothing = 0 ∷ 0 ∷ 0 ∷ 0 ∷ 0 ∷ 0 ∷ []
news_answer (Transfer channel held answer) = answer_numbers answer
news_answer Query = 0 ∷ 0 ∷ 0 ∷ 0 ∷ 0 ∷ 0 ∷ []
news_answer (Notice room) = 0 ∷ 0 ∷ 0 ∷ 0 ∷ 0 ∷ 0 ∷ []
news_answer (Refused refusal) = 0 ∷ 0 ∷ 0 ∷ 0 ∷ 0 ∷ 0 ∷ []

-- what was told: 0 nothing, 1 the receiver's answer, 2 a query, 3 a notice and its room, 4 a refusal of the reader's
-- and its number
abbrev pub news_kind : News → ℕ
news_kind Nothing = 0
news_kind (Transfer channel held answer) = 1
news_kind Query = 2
news_kind (Notice room) = 3
news_kind (Refused refusal) = 4

abbrev pub news_value : News → ℕ
news_value Nothing = 0
news_value (Transfer channel held answer) = 0
news_value Query = 0
news_value (Notice room) = room
news_value (Refused refusal) = number_of refusal

abbrev pub listened_numbers : Listened → List ℕ
listened_numbers x =
    receiver_numbers x.listener.receiver ++ news_answer x.news
    ++ (phase_number x.listener.reader.phase ∷ x.listener.reader.held ∷ news_kind x.news ∷ news_value x.news ∷ x.next ∷ [])

-- a row of another length is refused with 23, and nothing changes
unfoldable pub listen_number : List ℕ → List ℕ → ℕ → List ℕ → ℕ → ℕ
listen_number row input from message room =
    cond (eqb (length row) 145) (news_number (listen (listener_of row) input from message room).news) 23

unfoldable pub row_listened : List ℕ → List ℕ → ℕ → List ℕ → ℕ → List ℕ
row_listened row input from message room =
    cond (eqb (length row) 145) (listened_numbers (listen (listener_of row) input from message room)) row

unfoldable pub message_listened : List ℕ → List ℕ → ℕ → List ℕ → List ℕ
message_listened row input from message =
    cond (eqb (length row) 145) (read_from (listener_of row).reader input from message).buffer message

unfoldable pub cargo_held : List ℕ → List ℕ → ℕ → List ℕ → List ℕ → List ℕ
cargo_held row input from message cargo =
    cond (eqb (length row) 145) (cargo_listened (listener_of row) input from message cargo) cargo
