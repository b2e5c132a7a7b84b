-- Both sides of each line of request 14, and the order of its refusals; the cargo is P1's: ten bytes on channel 3, T =
-- 8.
use Rattle.std.specs.Prelude.{ℕ, ◌^◌, ◌-◌, ◌≡◌, List, [], ◌∷◌, Option, None, Some, Result, Ok, Err}
use Rattle.refusals.specs.declared.Refusal.{Refusal}
use Rattle.refusals.specs.declared.Refusal.TheVariants.{ShortOutput, NoPermit, EndedPermit, SmallPermit}
use Rattle.sender.specs.declared.Sender.{Sender}
use Rattle.verdict.specs.Judge.{settings_of}
use Rattle.sender.specs.State.{fresh_sender}
use Rattle.sender.specs.Send.{after}
use Rattle.permit.specs.declared.Permit.{Permit}
use Rattle.permit.specs.Permit.{granted, refusal}
use Rattle.permit.specs.Send.{transfers, messages, asked}

-- the sender of P1, before its first transfer and before its second
abbrev pub first : Sender
first = fresh_sender (settings_of 32766 32) 8

abbrev pub second : Sender
second = after first 3 10

abbrev pub cargo : List ℕ
cargo = 65 ∷ 66 ∷ 67 ∷ 68 ∷ 69 ∷ 70 ∷ 71 ∷ 72 ∷ 73 ∷ 74 ∷ []

-- the answer to its next transfer of eight bytes, to an output of `room` bytes, at this clock, where the timeout is 50
-- ms
abbrev pub answer : Option Permit → Sender → ℕ → ℕ → Result Unit Refusal
answer p s room clock = asked transfers p s 3 cargo room clock 50

-- and to the message of eleven bytes that carries it, none of them escaped
abbrev pub message_answer : Option Permit → Sender → ℕ → ℕ → Result Unit Refusal
message_answer p s room clock = asked messages p s 3 cargo room clock 50

pub record Table : Type 0 where
  -- L is what remains of the cargo plus 4, not the transfer's eight bytes: 14, then 10
  pub just_room : answer (Some (granted 14 1000)) first 8 1000 ≡ Ok tt
  pub no_room : answer (Some (granted 13 1000)) first 8 1000 ≡ Err SmallPermit
  pub just_rest : answer (Some (granted 10 1000)) second 8 1000 ≡ Ok tt
  pub no_rest : answer (Some (granted 9 1000)) second 8 1000 ≡ Err SmallPermit
  -- exactly the timeout is still good
  pub in_time : answer (Some (granted 14 1000)) first 8 1050 ≡ Ok tt
  pub too_late : answer (Some (granted 14 1000)) first 8 1051 ≡ Err EndedPermit
  -- a clock that is earlier, also by the whole range of 64 bits
  pub earlier : answer (Some (granted 14 1000)) first 8 999 ≡ Err EndedPermit
  pub far_earlier : answer (Some (granted 14 (2 ^ 64 - 1))) first 8 0 ≡ Err EndedPermit
  pub at_the_end : answer (Some (granted 14 (2 ^ 64 - 51))) first 8 (2 ^ 64 - 1) ≡ Ok tt
  -- none held; 45 before 44; the sender's 28 before 43
  pub none : answer None first 8 1000 ≡ Err NoPermit
  pub ended_first : answer (Some (granted 13 1000)) first 8 1051 ≡ Err EndedPermit
  pub own_first : answer None first 7 1000 ≡ Err ShortOutput
  -- the message's 28 too
  pub just_message : message_answer (Some (granted 14 1000)) first 11 1000 ≡ Ok tt
  pub short_message : message_answer (Some (granted 14 1000)) first 10 1000 ≡ Err ShortOutput
  pub message_first : message_answer None first 10 1000 ≡ Err ShortOutput
  pub no_message : message_answer None first 11 1000 ≡ Err NoPermit
  -- a timeout of 0 is the moment itself
  pub at_once : refusal (Some (granted 5 1000)) 5 1000 0 ≡ Ok tt
  pub not_at_once : refusal (Some (granted 5 1000)) 5 1001 0 ≡ Err EndedPermit
