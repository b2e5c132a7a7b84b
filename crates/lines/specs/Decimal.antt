-- A number as text: "numbers decimal" (document 01, the listing program). The digits are those of the library `io`.
use Rattle.std.specs.Prelude.{ℕ, zero, suc, ◌+◌, ◌/◌, List, cond, ltb}
use Rattle.io.specs.Digits.{last_digits}

-- how many digits n has, where it has no more than 1 + more
unfoldable pub places : ℕ → ℕ → ℕ
places zero n = 1
places (suc more) n = cond (ltb n 10) 1 (1 + places more (n / 10))

-- a number of 64 bits has at most 20
unfoldable pub decimal : ℕ → List ℕ
decimal n = last_digits 10 (places 19 n) n
