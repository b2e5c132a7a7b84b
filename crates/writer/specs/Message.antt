-- A message as it is sent, and what the writer answers (document 01, "UART messages"; 004, 4.1 to 4.3).
use Rattle.std.specs.Prelude.{ℕ, ◌+◌, ◌/◌, ◌%◌, List, [], ◌∷◌, ◌++◌, Bool, cond, ◌||◌, ltb, eqb, length, drop, Result, Ok, Err, is_ok, count_by}
use Rattle.std.specs.Int.Bits.{bit_xor}
use Rattle.refusals.specs.declared.Refusal.{Refusal}
use Rattle.refusals.specs.declared.Refusal.TheVariants.{UnknownId, ShortOutput}

-- "flag 0x7E"
abbrev pub flag : ℕ
flag = 126

-- 0x7D, before a byte that is sent otherwise
abbrev pub escape : ℕ
escape = 125

-- "0x7E and 0x7D are sent as 0x7D and the byte XOR 0x20; the writer escapes no others"
abbrev pub special : ℕ → Bool
special b = eqb b flag || eqb b escape

abbrev pub turned : ℕ → ℕ
turned b = bit_xor b 32

unfoldable pub sent : ℕ → List ℕ
sent b = cond (special b) (escape ∷ turned b ∷ []) (b ∷ [])

unfoldable pub escaped : List ℕ → List ℕ
escaped [] = []
escaped (b ∷ bs) = sent b ++ escaped bs

-- "A message is flag 0x7E, protocol ID, payload, flag."
abbrev pub message : ℕ → List ℕ → List ℕ
message id payload = flag ∷ escaped (id ∷ payload) ++ flag ∷ []

-- "the number of payload bytes escaped"
abbrev pub escapes : List ℕ → ℕ
escapes payload = count_by special payload

-- "The written length is 3 + payload + the number of payload bytes escaped."
abbrev pub written_length : List ℕ → ℕ
written_length payload = 3 + length payload + escapes payload

-- "The writer takes ID 0 or 1: another ID is refused with 30, then a short output with 28." Else the length is told.
unfoldable pub write_answer : ℕ → List ℕ → ℕ → Result ℕ Refusal
write_answer id payload room =
    cond (ltb 1 id) (Err UnknownId)
    (cond (ltb room (written_length payload)) (Err ShortOutput)
    (Ok (written_length payload)))

-- how many bytes were written: none where it is refused
abbrev pub written_in : Result ℕ Refusal → ℕ
written_in (Ok written) = written
written_in (Err refusal) = 0

-- "Output bytes behind what is written stay"
unfoldable pub output_after : ℕ → List ℕ → List ℕ → List ℕ
output_after id payload out =
    cond (is_ok (write_answer id payload (length out))) (message id payload ++ drop (written_length payload) out) out

-- "ID 0 with no payload is a Buffer Status Query, with two bytes a Notification, low byte first."
abbrev pub query_payload : List ℕ
query_payload = []

abbrev pub notice_payload : ℕ → List ℕ
notice_payload room = room % 256 ∷ room / 256 ∷ []
