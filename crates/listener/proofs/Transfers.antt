-- A transfer that is sent as a message and read above a receiver is taken as `take` takes it; and both control messages come back.
use Prim.Native.Nat.{ℕ, ◌+◌, ◌-◌, ◌≤◌}
use mathlib.Core.Path.{◌≡◌, refl, ap}
use mathlib.Core.List.{List, [], ◌∷◌, append_assoc}
use native.Mathlib.Omega.{arith}
use lib.ListN.{length, drop}
use lib.Seq.{take-append_seam}
use Rattle.std.specs.Prelude.{Ok}
use Rattle.receiver.specs.declared.Receiver.{Receiver}
use Rattle.receiver.specs.Take.{receive, cargo_after}
use Rattle.reader.specs.declared.Event.TheVariants.{Message, Query, Notice}
use Rattle.reader.specs.declared.Reader.{Reader}
use Rattle.listener.specs.declared.Listener.{Listener}
use Rattle.writer.specs.Message.{flag, sent, escaped, message, written_length, write_answer, output_after, query_payload, notice_payload}
use Rattle.reader.specs.Reader.{opened, message_of, control}
use Rattle.reader.specs.Run.{read_from}
use Rattle.listener.specs.Listen.{payload_of, transferred, handed, cargo_handed, listen, cargo_listened}
use Rattle.reader.proofs.WriteRead.{none, without, first_flag, kept, back, Stands, read_back}

-- document 01: transfer `06 00 02 00 7E 01` is sent as `7E 01 06 00 02 00 7D 5E 01 7E`
pub example : message 1 (6 ∷ 0 ∷ 2 ∷ 0 ∷ 126 ∷ 1 ∷ []) ≡ 126 ∷ 1 ∷ 6 ∷ 0 ∷ 2 ∷ 0 ∷ 125 ∷ 94 ∷ 1 ∷ 126 ∷ []
unfolding sent escaped
example = refl

-- what is told of a message read back
pub message_told : (payload buf : List ℕ) → message_of (1 + length payload) (kept 1 payload buf) ≡ Message (length payload)
unfolding message_of
message_told payload buf = ap Message (omega arith)

pub query_told : (buf : List ℕ) → message_of (1 + length query_payload) (kept 0 query_payload buf) ≡ Query
unfolding message_of control
query_told buf = refl

pub notice_told : (room : ℕ) (buf : List ℕ) → message_of (1 + length (notice_payload room)) (kept 0 (notice_payload room) buf) ≡ Notice room
unfolding message_of control
notice_told room buf = ap Notice (omega arith)

pub payload_back : (id : ℕ) (payload buf : List ℕ) → payload_of (length payload) (kept id payload buf) ≡ payload
payload_back id payload buf = take-append_seam payload (drop (1 + length payload) buf)

-- what the writer wrote stands at the front of its output
unfoldable pub written_stands : (room held id : ℕ) (payload out : List ℕ) {n : ℕ} → held ≤ room → write_answer id payload (length out) ≡ Ok n
    → Stands room (without held) (output_after id payload out) 0 id payload
unfolding output_after
written_stands room held id payload out {n} h e =
    record { lead = flag ∷ []; opens = first_flag h none; flags = 0; rest = drop (written_length payload) out; is = simp (e, append_assoc) }

-- what the writer wrote, read from the front of its output
pub written_read : (id : ℕ) (payload out : List ℕ) {n : ℕ} → write_answer id payload (length out) ≡ Ok n → (held : ℕ) (buf : List ℕ) → held ≤ length buf → 1 + length payload ≤ length buf
    → read_from (without held) (output_after id payload out) 0 buf ≡ back id payload (drop (written_length payload) out) (length (output_after id payload out)) buf
unfolding written_stands
written_read id payload out {n} e held buf h room =
    read_back (without held) (output_after id payload out) 0 id payload buf (written_stands (length buf) held id payload out h e) room

-- a transfer t that stands on the input as a message, read above a receiver
module _ (r : Reader) (input : List ℕ) (from : ℕ) (t m : List ℕ) (s : Stands (length m) r input from 1 t) (rx : Receiver) (d : List ℕ) (room : 1 + length t ≤ length m) where
  abbrev above : Listener
  above = record { reader = r; receiver = rx }

  is_back : read_from r input from m ≡ back 1 t s.rest (length input) m
  is_back = read_back r input from 1 t m s room

  pub taken : listen above input from m (length d)
      ≡ record {
        listener = record { reader = opened; receiver = (receive rx t (length d)).receiver };
        next = length input - length s.rest;
        news = (transferred t (receive rx t (length d))).news;
      }
  unfolding handed
  taken = rw (is_back, message_told t m, payload_back 1 t m)

  pub cargo_taken : cargo_listened above input from m d ≡ cargo_after rx t d
  unfolding cargo_handed
  cargo_taken = rw (is_back, message_told t m, payload_back 1 t m)
