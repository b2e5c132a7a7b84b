-- A state's fields as numbers of a row, and back. Every row of the right length is some state.
use Rattle.std.specs.Prelude.{ℕ, ◌%◌, ◌^◌, Bool, not, cond, List, [], ◌∷◌, eqb, take, drop, Option, None, Some}
use Rattle.header.specs.declared.sequence.Counter.{Counter}
use Rattle.joining.specs.declared.channels.Channel.{Channel}
use Rattle.joining.specs.declared.Cargo.{Cargo}

-- the 32 places from `at` on, one for each channel
abbrev pub part : ℕ → List ℕ → List ℕ
part at row = take 32 (drop at row)

abbrev pub counter_of : ℕ → Counter
counter_of x = record { next = x % 256 }

abbrev pub counter_number : Counter → ℕ
counter_number c = c.next

-- 0 for false, any other number for true
abbrev pub flag_of : ℕ → Bool
flag_of x = not (eqb x 0)

abbrev pub flag_number : Bool → ℕ
flag_number flag = cond flag 1 0

abbrev pub count_of : ℕ → ℕ
count_of x = x % 2 ^ 32

abbrev pub count_number : ℕ → ℕ
count_number x = x

-- a channel as four numbers: the number expected, whether it was heard, its missing count and its repeats
abbrev pub channel_from : (expected heard missing repeats : ℕ) → Channel
channel_from expected heard missing repeats =
    record {
      counter = counter_of expected;
      heard = flag_of heard;
      missing = count_of missing;
      repeats = count_of repeats;
    }

abbrev pub channel_numbers : Channel → List ℕ
channel_numbers c =
    counter_number c.counter ∷ flag_number c.heard ∷ count_number c.missing ∷ count_number c.repeats ∷ []

-- whether a cargo is under way, then its channel, its total and the bytes held
unfoldable pub underway_of : (flag channel total held : ℕ) → Option Cargo
underway_of flag channel total held =
    cond (eqb flag 0) None (Some record { channel = channel; total = total; held = held })

abbrev pub underway_numbers : Option Cargo → List ℕ
underway_numbers None = 0 ∷ 0 ∷ 0 ∷ 0 ∷ []
underway_numbers (Some cargo) = 1 ∷ cargo.channel ∷ cargo.total ∷ cargo.held ∷ []
