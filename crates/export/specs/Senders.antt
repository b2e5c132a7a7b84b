-- A sender as a row of 40 numbers: the 32 channels' next numbers, limit, channel count, the cargo under way (four
-- numbers), the largest transfer; then how many bytes the last call wrote.
use Rattle.std.specs.Prelude.{ℕ, cond, List, [], ◌∷◌, ◌++◌, map, eqb, length, get_or, drop}
use Rattle.std.specs.Result.{result_unwrap_or}
use Rattle.verdict.specs.Judge.{settings_of}
use Rattle.sender.specs.declared.Sender.{Sender}
use Rattle.refusals.specs.Number.{number_in}
use Rattle.sender.specs.Send.{sent, sender_after, written_in, out_after, abandoned}
use Rattle.export.specs.Fields as fields

abbrev pub sender_of : (row : List ℕ) → Sender
sender_of row =
    record {
      settings = settings_of (get_or row 32 0) (get_or row 33 0);
      largest = get_or row 38 0;
      counters = map fields.counter_of (fields.part 0 row);
      underway = fields.underway_of (get_or row 34 0) (get_or row 35 0) (get_or row 36 0) (get_or row 37 0);
    }

abbrev pub sender_numbers : Sender → List ℕ
sender_numbers s =
    map fields.counter_number s.counters
    ++ (s.settings.limit ∷ s.settings.count ∷ fields.underway_numbers s.underway)
    ++ (s.largest ∷ [])

-- the whole row: the sender's 39 numbers, and how many bytes were written
abbrev pub sent_numbers : Sender → ℕ → List ℕ
sent_numbers s written = sender_numbers s ++ (written ∷ [])

-- a row of another length is refused with 23, and nothing changes
unfoldable pub send_number : List ℕ → ℕ → ℕ → ℕ → ℕ
send_number row channel m room = cond (eqb (length row) 40) (number_in (sent (sender_of row) channel m room)) 23

unfoldable pub row_sent : List ℕ → ℕ → ℕ → ℕ → List ℕ
row_sent row channel m room =
    let s = sender_of row in
    let x = sent s channel m room in
    cond (eqb (length row) 40) (sent_numbers (sender_after s x) (written_in x)) row

unfoldable pub out_sent : List ℕ → ℕ → List ℕ → List ℕ → List ℕ
out_sent row channel cargo out = cond (eqb (length row) 40) (out_after (sender_of row) channel cargo out) out

unfoldable pub abandon_number : List ℕ → ℕ
abandon_number row = cond (eqb (length row) 40) (number_in (abandoned (sender_of row))) 23

-- where it is refused the sender is as it was; how many bytes the last call wrote stays
unfoldable pub row_abandoned : List ℕ → List ℕ
row_abandoned row =
    let s = sender_of row in
    cond (eqb (length row) 40) (sender_numbers (result_unwrap_or (abandoned s) s) ++ drop 39 row) row
