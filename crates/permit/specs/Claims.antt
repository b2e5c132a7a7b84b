-- What is claimed of both permitted functions, whatever the sender, the cargo, the output, the clock and the timeout.
use Rattle.std.specs.Prelude.{ℕ, ◌+◌, ◌*◌, ◌≤◌, ◌≡◌, true, false, List, length, take, drop, Option, None, Some, Result, Ok, Err, is_ok}
use Rattle.refusals.specs.declared.Refusal.{Refusal}
use Rattle.refusals.specs.declared.Refusal.TheVariants.{NoPermit}
use Rattle.sender.specs.declared.Sender.{Sender}
use Rattle.sender.specs.Send.{judge_send, size_at, header_at}
use Rattle.sender.specs.Send as plain
use Rattle.permit.specs.declared.Permit.{Permit}
use Rattle.permit.specs.declared.send.Allowed.{Allowed}
use Rattle.permit.specs.Permit.{granted, refusal}
use Rattle.permit.specs.Send.{Way, messages, answer, sender_after, permit_after, written_in, output}

-- what a call is given, beside the permit
pub record Call : Type 0 where
  pub sender : Sender
  pub channel : ℕ
  pub cargo : List ℕ
  pub out : List ℕ
  pub clock : ℕ
  pub timeout : ℕ

abbrev pub answer_to : Way → Option Permit → Call → Result Allowed Refusal
answer_to way held k = answer way held k.sender k.channel k.cargo (length k.out) k.clock k.timeout

abbrev pub output_of : Way → Option Permit → Call → List ℕ
output_of way held k = output way held k.sender k.channel k.cargo k.out k.clock k.timeout

-- "A permit with more room never refuses what one with less, come at the same time, would have allowed at the same
-- moment." The whole answer and the output are the same
abbrev pub MoreRoom : Way → Type 0
MoreRoom way =
    (less more came : ℕ) (k : Call) → less ≤ more → is_ok (answer_to way (Some (granted less came)) k) ≡ true
    → (answer_to way (Some (granted more came)) k ≡ answer_to way (Some (granted less came)) k)
    × (output_of way (Some (granted more came)) k ≡ output_of way (Some (granted less came)) k)

-- "A refused transfer uses up neither number nor permit": nothing changes, and no byte is written
pub record Untouched (way : Way) (held : Option Permit) (k : Call) : Type 0 where
  pub sender : sender_after k.sender (answer_to way held k) ≡ k.sender
  pub permit : permit_after held (answer_to way held k) ≡ held
  pub written : written_in (answer_to way held k) ≡ 0
  pub output : output_of way held k ≡ k.out

abbrev pub RefusedUntouched : Way → Type 0
RefusedUntouched way =
    (held : Option Permit) (k : Call) → is_ok (answer_to way held k) ≡ false → Untouched way held k

-- What is written: the plain sender would have taken it, and the permit allowed it. The sender is the plain one after
-- its call, the permit is used up, the bytes stand at the output's front, and what is behind them stays
pub record AsPlain (way : Way) (held : Option Permit) (k : Call) : Type 0 where
  pub own : judge_send k.sender k.channel (length k.cargo) (length k.out) ≡ Ok tt
  pub allowed : refusal held (header_at k.sender k.channel (length k.cargo)).length k.clock k.timeout ≡ Ok tt
  pub sender :
      sender_after k.sender (answer_to way held k)
      ≡ plain.sender_after k.sender (plain.sent k.sender k.channel (length k.cargo) (length k.out))
  pub permit : permit_after held (answer_to way held k) ≡ None
  pub front :
      take (written_in (answer_to way held k)) (output_of way held k) ≡ way.bytes k.sender k.channel k.cargo
  pub behind :
      drop (written_in (answer_to way held k)) (output_of way held k)
      ≡ drop (written_in (answer_to way held k)) k.out
  pub size : length (output_of way held k) ≡ length k.out

abbrev pub WrittenAsPlain : Way → Type 0
WrittenAsPlain way =
    (held : Option Permit) (k : Call) → is_ok (answer_to way held k) ≡ true → AsPlain way held k

-- none held: 43, once the call's own order lets it through
abbrev pub NoneHeld : Way → Type 0
NoneHeld way =
    (k : Call) → way.own k.sender k.channel k.cargo (length k.out) ≡ Ok tt → answer_to way None k ≡ Err NoPermit

-- 2n + 3 bytes are always enough for the message of a transfer of n bytes
abbrev pub AlwaysEnough : Type 0
AlwaysEnough =
    (k : Call) → judge_send k.sender k.channel (length k.cargo) (length k.out) ≡ Ok tt
    → 2 * size_at k.sender (length k.cargo) + 3 ≤ length k.out
    → messages.own k.sender k.channel k.cargo (length k.out) ≡ Ok tt
