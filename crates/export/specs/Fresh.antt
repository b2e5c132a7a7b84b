-- The rows of fresh records.
use Rattle.std.specs.Prelude.{ℕ, cond, List, ◌++◌, eqb, length, drop}
use Rattle.verdict.specs.Judge.{settings_of}
use Rattle.receiver.specs.State.{fresh_receiver}
use Rattle.sender.specs.State.{fresh_sender}
use Rattle.export.specs.Receivers.{receiver_numbers}
use Rattle.export.specs.Senders.{sender_numbers}

-- a row of another length is refused with 23, and nothing changes
unfoldable pub fresh_number : ℕ → List ℕ → ℕ
fresh_number places row = cond (eqb (length row) places) 0 23

unfoldable pub receiver_row : ℕ → ℕ → List ℕ → List ℕ
receiver_row limit count row =
    cond (eqb (length row) 140) (receiver_numbers (fresh_receiver (settings_of limit count)) ++ drop 134 row) row

unfoldable pub sender_row : ℕ → ℕ → ℕ → List ℕ → List ℕ
sender_row limit count largest row =
    cond (eqb (length row) 40) (sender_numbers (fresh_sender (settings_of limit count) largest) ++ drop 39 row) row
