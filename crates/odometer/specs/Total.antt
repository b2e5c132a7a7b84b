-- A turn total in a cargo (document 02, request 9).
use Rattle.std.specs.Prelude.{ℕ, ◌+◌, ◌*◌, cond, ◌&&◌, List, eqb, length, get_or, Option, None, Some}

-- "in 32 bits, low byte first"
abbrev pub low_first : ℕ → ℕ → ℕ → ℕ → ℕ
low_first a b c d = a + b * 256 + c * 65536 + d * 16777216

-- "five bytes: kind 1, then the running turn total"
unfoldable pub total_in : List ℕ → Option ℕ
total_in cargo =
    cond (eqb (length cargo) 5 && eqb (get_or cargo 0 0) 1)
    (Some (low_first (get_or cargo 1 0) (get_or cargo 2 0) (get_or cargo 3 0) (get_or cargo 4 0)))
    None
