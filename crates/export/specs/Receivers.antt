-- A receiver as a row of 140 numbers: 32 numbers expected, 32 flags of channels heard, 32 missing counts, 32 repeats,
-- limit, channel count, the cargo under way (four numbers); then what the last answer told (six numbers).
use Rattle.std.specs.Prelude.{ℕ, zero, suc, ◌+◌, cond, List, [], ◌∷◌, ◌++◌, map, eqb, length, get_or, set, drop}
use Rattle.std.specs.Result.{result_unwrap_or}
use Rattle.verdict.specs.Judge.{settings_of}
use Rattle.verdict.specs.declared.answers.Answer.{Answer}
use Rattle.verdict.specs.declared.answers.Kind.{Kind}
use Rattle.verdict.specs.declared.answers.Kind.TheVariants.{Delivered, Part, Null, Refused}
use Rattle.joining.specs.declared.channels.Channel.{Channel}
use Rattle.receiver.specs.declared.Receiver.{Receiver}
use Rattle.receiver.specs.Take.{receive, cargo_after}
use Rattle.receiver.specs.Counts.{copying, row_after, cleared}
use Rattle.refusals.specs.Number.{number_in}
use Rattle.export.specs.Fields as fields

-- channel i of a row, and the first n channels
abbrev pub channel_in : (row : List ℕ) (i : ℕ) → Channel
channel_in row i = fields.channel_from (get_or row i 0) (get_or row (32 + i) 0) (get_or row (64 + i) 0) (get_or row (96 + i) 0)

unfoldable pub channels_in : (row : List ℕ) (n : ℕ) → List Channel
channels_in row zero = []
channels_in row (suc n) = channels_in row n ++ (channel_in row n ∷ [])

-- the row after channel i was put there
abbrev pub channel_put : (row : List ℕ) (i : ℕ) (c : Channel) → List ℕ
channel_put row i c =
    set
    (set
    (set
    (set row i (fields.counter_number c.counter))
    (32 + i) (fields.flag_number c.heard))
    (64 + i) (fields.count_number c.missing))
    (96 + i) (fields.count_number c.repeats)

abbrev pub receiver_of : (row : List ℕ) → Receiver
receiver_of row =
    record {
      settings = settings_of (get_or row 128 0) (get_or row 129 0);
      channels = channels_in row 32;
      underway = fields.underway_of (get_or row 130 0) (get_or row 131 0) (get_or row 132 0) (get_or row 133 0);
    }

abbrev pub channels_numbers : List Channel → List ℕ
channels_numbers channels =
    map (λ (c : Channel). fields.counter_number c.counter) channels
    ++ map (λ (c : Channel). fields.flag_number c.heard) channels
    ++ map (λ (c : Channel). fields.count_number c.missing) channels
    ++ map (λ (c : Channel). fields.count_number c.repeats) channels

abbrev pub receiver_numbers : Receiver → List ℕ
receiver_numbers r =
    channels_numbers r.channels ++ (r.settings.limit ∷ r.settings.count ∷ fields.underway_numbers r.underway)

-- the kind: 0 delivered, 1 part, 2 null, 3 refused; a delivered cargo's channel and length
abbrev pub kind_number : Kind → ℕ
kind_number (Delivered channel len) = 0
kind_number Part = 1
kind_number Null = 2
kind_number Refused = 3

abbrev pub kind_channel : Kind → ℕ
kind_channel (Delivered channel len) = channel
kind_channel Part = 0
kind_channel Null = 0
kind_channel Refused = 0

abbrev pub kind_length : Kind → ℕ
kind_length (Delivered channel len) = len
kind_length Part = 0
kind_length Null = 0
kind_length Refused = 0

abbrev pub answer_numbers : Answer → List ℕ
answer_numbers a =
    kind_number a.kind ∷ a.number ∷ a.gap ∷ fields.flag_number a.dropped
    ∷ kind_channel a.kind ∷ kind_length a.kind ∷ []

-- a row of another length is refused with 23, and nothing changes
unfoldable pub take_number : (row t : List ℕ) (room : ℕ) → ℕ
take_number row t room = cond (eqb (length row) 140) (receive (receiver_of row) t room).answer.number 23

unfoldable pub row_taken : List ℕ → List ℕ → ℕ → List ℕ
row_taken row t room =
    let x = receive (receiver_of row) t room in
    cond (eqb (length row) 140) (receiver_numbers x.receiver ++ answer_numbers x.answer) row

unfoldable pub cargo_taken : List ℕ → List ℕ → List ℕ → List ℕ
cargo_taken row t cargo = cond (eqb (length row) 140) (cargo_after (receiver_of row) t cargo) cargo

unfoldable pub counts_number : List ℕ → ℕ → ℕ
counts_number row room = cond (eqb (length row) 140) (number_in (copying (receiver_of row) room)) 23

unfoldable pub counts_copied : List ℕ → List ℕ → List ℕ
counts_copied row counts = cond (eqb (length row) 140) (row_after (receiver_of row) counts) counts

unfoldable pub clear_number : List ℕ → ℕ
clear_number row = cond (eqb (length row) 140) (number_in (cleared (receiver_of row))) 23

-- where clearing is refused the receiver is as it was; what the last answer told stays
unfoldable pub row_cleared : List ℕ → List ℕ
row_cleared row =
    let r = receiver_of row in
    cond (eqb (length row) 140) (receiver_numbers (result_unwrap_or (cleared r) r) ++ drop 134 row) row
