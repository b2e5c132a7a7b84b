-- What `decimal` writes is read back.
use Prim.Native.Nat.{ℕ, zero, suc, ◌+◌, ◌-◌, ◌*◌, ◌/◌, ◌%◌, ◌^◌, ◌≤◌, ◌<◌}
use mathlib.Core.Bool.{true}
use mathlib.Core.Path.{◌≡◌, refl}
use mathlib.Core.List.{List, [], ◌∷◌, ◌++◌}
use native.Mathlib.Nat.{div-lt_iff_lt-mul, pow-suc, div-add-mod', mod-lt}
use native.Mathlib.Omega.{arith}
use borrow.Author.Tests.{lt-ltb, le-leb, ne_eqb, ltb-true}
use lib.Dec.{ltb}
use lib.ListN.{length, length-append}
use Rattle.std.specs.Prelude.{Some}
use Rattle.io.specs.Digits.{last_digits, hex_digit_ascii}
use Rattle.laws.proofs.Tests.{by_cases, and-true}
use Rattle.lines.specs.Decimal.{places, decimal}
use Rattle.arguments.specs.Number.{is_digit, all_digits, value_from, number_from, number_in}

-- ---- one digit more, at the end

between : (b : ℕ) → 48 ≤ b → b ≤ 57 → is_digit b ≡ true
unfolding is_digit
between b low high = rw (le-leb 48 b low, le-leb b 57 high) refl

value_more : (m : ℕ) (text : List ℕ) (b : ℕ) → value_from m (text ++ b ∷ []) ≡ value_from m text * 10 + (b - 48)
value_more m [] b = refl
value_more m (a ∷ text) b = value_more (m * 10 + (a - 48)) text b

all_more : (text : List ℕ) (b : ℕ) → all_digits text ≡ true → is_digit b ≡ true → all_digits (text ++ b ∷ []) ≡ true
all_more [] b all d = rw d
all_more (a ∷ text) b all d =
    let both = and-true (is_digit a) (all_digits text) all in
    rw both.0 (all_more text b both.1 d)

glyph_of : (n : ℕ) → hex_digit_ascii (n % 10) ≡ 48 + n % 10
glyph_of n = rw (lt-ltb (n % 10) 10 (mod-lt n (omega arith)))

-- ---- the last k digits of a number

digits_all : (k n : ℕ) → all_digits (last_digits 10 k n) ≡ true
digits_all zero n = refl
digits_all (suc k) n =
    let small = mod-lt n {m = 10} (omega arith) in
    rw glyph_of (all_more (last_digits 10 k (n / 10)) (48 + n % 10) (digits_all k (n / 10)) (between (48 + n % 10) (omega arith) (omega arith)))

below_tenth : (n k : ℕ) → n < 10 ^ suc k → n / 10 < 10 ^ k
below_tenth n k h = (div-lt_iff_lt-mul {k = 10} {x = n} {y = 10 ^ k} (omega arith)).1 (rw pow-suc at h)

digits_value : (k n : ℕ) → n < 10 ^ k → value_from 0 (last_digits 10 k n) ≡ n
digits_value zero n h = omega arith
digits_value (suc k) n h =
    rw (glyph_of n, value_more 0 (last_digits 10 k (n / 10)) (48 + n % 10), digits_value k (n / 10) (below_tenth n k h)) (omega (arith, div-add-mod' n 10))

some_digits : (k n : ℕ) → 1 ≤ k → length (last_digits 10 k n) ≡ 0 → ⊥
some_digits zero n h e = omega arith
some_digits (suc k) n h e = omega (arith, length-append (last_digits 10 k (n / 10)) (hex_digit_ascii (n % 10) ∷ []))

-- ---- as many digits as it has

places_some : (more n : ℕ) → 1 ≤ places more n
unfolding places
places_some zero n = omega arith
places_some (suc more) n = by_cases (λ (k : ℕ). 1 ≤ k) (ltb n 10) _ _ (λ q. omega arith) (λ q. omega arith)

places_hold : (more n : ℕ) → n < 10 ^ suc more → n < 10 ^ places more n
unfolding places
places_hold zero n h = h
places_hold (suc more) n h =
    by_cases (λ (k : ℕ). n < 10 ^ k) (ltb n 10) _ _ (λ q. ltb-true n 10 q)
    (λ q.
    let k = places more (n / 10) in
    let tenth = places_hold more (n / 10) (below_tenth n (suc more) h) in
    let one : 1 + k ≡ suc k = omega arith in
    rw (one, pow-suc) ((div-lt_iff_lt-mul {k = 10} {x = n} {y = 10 ^ k} (omega arith)).0 tenth))

-- the whole number, and nothing else
pub read_back : (least most n : ℕ) → least ≤ n → n ≤ most → n < 2 ^ 64 → number_in least most (decimal n) ≡ Some n
unfolding number_in number_from decimal
read_back least most n l m small =
    let k = places 19 n in
    let value = digits_value k n (places_hold 19 n (omega arith)) in
    let some : length (last_digits 10 k n) ≡ 0 → ⊥ = some_digits k n (places_some 19 n) in
    rw (ne_eqb (length (last_digits 10 k n)) 0 some, value, digits_all k n, le-leb n most m, le-leb least n l)
