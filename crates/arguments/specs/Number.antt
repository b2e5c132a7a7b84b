-- A number in decimal as an argument: our reading, as document 02 names no arguments.
use Rattle.std.specs.Prelude.{ℕ, ◌+◌, ◌-◌, ◌*◌, Bool, true, cond, ◌&&◌, List, [], ◌∷◌, leb, eqb, length, Option, None, Some}

-- `0` to `9`
unfoldable pub is_digit : ℕ → Bool
is_digit b = leb 48 b && leb b 57

abbrev pub all_digits : List ℕ → Bool
all_digits [] = true
all_digits (b ∷ rest) = is_digit b && all_digits rest

-- the number that digits make behind those that made n, the most significant first
abbrev pub value_from : ℕ → List ℕ → ℕ
value_from n [] = n
value_from n (b ∷ rest) = value_from (n * 10 + (b - 48)) rest

-- behind the digits that made n: digits to the end, and a number from `least` to `most`
unfoldable pub number_from : ℕ → ℕ → ℕ → List ℕ → Option ℕ
number_from least most n text =
    let value = value_from n text in
    cond (all_digits text && leb value most && leb least value) (Some value) None

-- one or more digits, leading zeros among them, and nothing else
unfoldable pub number_in : ℕ → ℕ → List ℕ → Option ℕ
number_in least most text = cond (eqb (length text) 0) None (number_from least most 0 text)
