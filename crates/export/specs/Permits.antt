-- A permit (document 02, request 14) as a row of 3 numbers: whether one is held, its room, the clock when it came;
-- and permitted sends, beside a sender's row.
use Rattle.std.specs.Prelude.{ℕ, ◌%◌, ◌^◌, Bool, cond, ◌&&◌, List, [], ◌∷◌, eqb, length, get_or, Option, None, Some, Result}
use Rattle.sender.specs.declared.Sender.{Sender}
use Rattle.permit.specs.declared.Permit.{Permit}
use Rattle.permit.specs.declared.send.Allowed.{Allowed}
use Rattle.permit.specs.Send as sends
use Rattle.refusals.specs.declared.Refusal.{Refusal}
use Rattle.refusals.specs.Number.{number_in}
use Rattle.permit.specs.Permit.{granted}
use Rattle.export.specs.Senders.{sender_of, sent_numbers}

-- 0 for none, any other number for one that is held; its room is read modulo 65,536
unfoldable pub permit_of : List ℕ → Option Permit
permit_of row =
    cond (eqb (get_or row 0 0) 0) None (Some record { room = get_or row 1 0 % 2 ^ 16; came = get_or row 2 0 })

abbrev pub permit_numbers : Option Permit → List ℕ
permit_numbers None = 0 ∷ 0 ∷ 0 ∷ []
permit_numbers (Some permit) = 1 ∷ permit.room ∷ permit.came ∷ []

-- a row of another length is refused with 23, and nothing changes
unfoldable pub row_granted : ℕ → ℕ → List ℕ → List ℕ
row_granted room clock permit = cond (eqb (length permit) 3) (permit_numbers (Some (granted room clock))) permit

-- so is a sender's row or a permit's of another length, with nothing changed anywhere
unfoldable pub fit : List ℕ → List ℕ → Bool
fit row permit = eqb (length row) 40 && eqb (length permit) 3

abbrev pub loaded : List ℕ → List ℕ → Option (Sender × Option Permit)
loaded row permit = cond (fit row permit) (Some (sender_of row, permit_of permit)) None

-- what a call on the permit and the sender that the rows mean tells, and leaves in the two rows and the output
abbrev pub Call : Type 0
Call = Option Permit → Sender → Result Allowed Refusal

unfoldable pub number_after : Call → List ℕ → List ℕ → ℕ
number_after call row permit = cond (fit row permit) (number_in (call (permit_of permit) (sender_of row))) 23

unfoldable pub row_after : Call → List ℕ → List ℕ → List ℕ
row_after call row permit =
    let s = sender_of row in
    let x = call (permit_of permit) s in
    cond (fit row permit) (sent_numbers (sends.sender_after s x) (sends.written_in x)) row

unfoldable pub permit_after : Call → List ℕ → List ℕ → List ℕ
permit_after call row permit =
    let held = permit_of permit in
    cond (fit row permit) (permit_numbers (sends.permit_after held (call held (sender_of row)))) permit

unfoldable pub out_after : (Option Permit → Sender → List ℕ) → List ℕ → List ℕ → List ℕ → List ℕ
out_after call row permit out = cond (fit row permit) (call (permit_of permit) (sender_of row)) out
