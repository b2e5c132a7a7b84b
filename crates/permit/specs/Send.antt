-- Permitted sends (document 02, request 14; document 01, "The sender" and "UART messages").
use Rattle.std.specs.Prelude.{ℕ, cond, List, ◌++◌, length, drop, Option, None, Result, Ok, Err, is_ok}
use Rattle.std.specs.Result.{result_and}
use Rattle.refusals.specs.declared.Refusal.{Refusal}
use Rattle.sender.specs.declared.Sender.{Sender}
use Rattle.sender.specs.Send.{judge_send, header_at, transfer_at, after}
use Rattle.writer.specs.Message.{message, write_answer}
use Rattle.permit.specs.declared.Permit.{Permit}
use Rattle.permit.specs.declared.send.Allowed.{Allowed}
use Rattle.permit.specs.Permit.{refusal}

-- ---- the two ways in which the transfer that comes next goes out

-- of sender, channel and cargo: what is refused before the permit is asked, where the output has so much room; the
-- bytes written
pub record Way : Type 0 where
  pub own : Sender → ℕ → List ℕ → ℕ → Result Unit Refusal
  pub bytes : Sender → ℕ → List ℕ → List ℕ

-- `send`: as the sender writes it
abbrev pub transfers : Way
transfers = record { own = λ s channel cargo room. judge_send s channel (length cargo) room; bytes = transfer_at }

-- `send_message`: in a UART message with ID 1; here 28 also asks for the message's bytes
abbrev pub messages : Way
messages =
    record {
      own =
          λ s channel cargo room.
          result_and (judge_send s channel (length cargo) room)
          (result_and (write_answer 1 (transfer_at s channel cargo) room) (Ok tt));
      bytes = λ s channel cargo. message 1 (transfer_at s channel cargo);
    }

-- ---- what both answer

-- "The sender's own order stays; the permit is asked after it", with the L of the transfer that comes next
abbrev pub asked : Way → Option Permit → Sender → ℕ → List ℕ → ℕ → ℕ → ℕ → Result Unit Refusal
asked way held s channel cargo room clock timeout =
    result_and (way.own s channel cargo room) (refusal held (header_at s channel (length cargo)).length clock timeout)

-- "a write uses it up"
abbrev pub written : Way → Sender → ℕ → List ℕ → Allowed
written way s channel cargo =
    record { sender = after s channel (length cargo); permit = None; written = length (way.bytes s channel cargo) }

-- the answer: the refusal, or the sender and the permit once the bytes are written
abbrev pub answer : Way → Option Permit → Sender → ℕ → List ℕ → ℕ → ℕ → ℕ → Result Allowed Refusal
answer way held s channel cargo room clock timeout =
    result_and (asked way held s channel cargo room clock timeout) (Ok (written way s channel cargo))

-- "A refused transfer uses up neither number nor permit.": sender and permit after a call, and how many bytes were
-- written
abbrev pub sender_after : Sender → Result Allowed Refusal → Sender
sender_after s (Ok allowed) = allowed.sender
sender_after s (Err refusal) = s

abbrev pub permit_after : Option Permit → Result Allowed Refusal → Option Permit
permit_after held (Ok allowed) = allowed.permit
permit_after held (Err refusal) = held

abbrev pub written_in : Result Allowed Refusal → ℕ
written_in (Ok allowed) = allowed.written
written_in (Err refusal) = 0

-- the output: the bytes stand at its front, and "Output bytes behind what is written stay"
unfoldable pub output : Way → Option Permit → Sender → ℕ → List ℕ → List ℕ → ℕ → ℕ → List ℕ
output way held s channel cargo out clock timeout =
    cond (is_ok (asked way held s channel cargo (length out) clock timeout))
    (way.bytes s channel cargo ++ drop (length (way.bytes s channel cargo)) out)
    out
