-- The digits that `io::decimal` writes are those of `decimal`: the fewest that hold a number are as many as its places.
use Prim.Native.Nat.{ℕ, zero, suc, ◌+◌, ◌*◌, ◌/◌, ◌-◌, ◌^◌, ◌≤◌, ◌<◌}
use mathlib.Core.Path.{◌≡◌, refl, subst, ap, ◌∙◌}
use native.Mathlib.Nat.{div-lt_iff_lt-mul, le-div_iff_mul-le, pow-suc, one-le-pow, pow-le-pow_right, le_of_suc-le-suc, lt_of_not-le}
use native.Mathlib.Omega.{arith}
use borrow.Author.Tests.{ltb-true, ltb-false}
use lib.Dec.{ltb}
use lib.ListN.{length, length-append}
use Rattle.io.specs.Digits.{last_digits, IsDigitCount}
use Rattle.laws.proofs.Tests.{by_cases}
use Rattle.lines.specs.Decimal.{places, decimal}

digits_length : (b k n : ℕ) → length (last_digits b k n) ≡ k
digits_length b zero n = refl
digits_length b (suc k) n = length-append (last_digits b k (n / b)) _ ∙ ap (λ (l : ℕ). l + 1) (digits_length b k (n / b)) ∙ omega arith

places_few : (more n : ℕ) → places more n ≤ 1 + more
unfolding places
places_few zero n = omega arith
places_few (suc more) n =
    by_cases (λ (k : ℕ). k ≤ 1 + suc more) (ltb n 10) _ _ (λ q. omega arith) (λ q. omega (arith, places_few more (n / 10)))

pub decimal_short : (n : ℕ) → length (decimal n) ≤ 20
unfolding decimal
decimal_short n = omega (arith, digits_length 10 (places 19 n) n, places_few 19 n)

-- one digit less, of a tenth
tenth : (n m : ℕ) → 1 ≤ m → IsDigitCount 10 1 n (suc m) → IsDigitCount 10 1 (n / 10) m
tenth n m h f = (
  h,
  (div-lt_iff_lt-mul {k = 10} {x = n} {y = 10 ^ m} (omega arith)).1 (rw pow-suc at f.1),
  λ more. (le-div_iff_mul-le {k = 10} {x = 10 ^ (m - 1)} {y = n} (omega arith)).1 (rw (← pow-suc) (subst (λ (j : ℕ). 10 ^ j ≤ n) pred (f.2 (omega arith)))),
)
  where
    pred : suc m - 1 ≡ suc (m - 1)
    pred = omega arith

fewest_places : (more n k : ℕ) → IsDigitCount 10 1 n k → k ≤ 1 + more → k ≡ places more n
unfolding places
fewest_places zero n k f few = omega arith
fewest_places (suc more) n zero f few = absurd (omega arith)
fewest_places (suc more) n (suc m) f few =
    by_cases (λ (p : ℕ). suc m ≡ p) (ltb n 10) _ _
    (λ q. one_digit n m (ltb-true n 10 q) f.2)
    (λ q. let big = ltb-false n 10 q in
    let e = fewest_places more (n / 10) m (tenth n m (above n m big f.1) f) (omega arith) in
    omega arith)
  where
    one_digit : (n m : ℕ) → n < 10 → (1 < suc m → 10 ^ (suc m - 1) ≤ n) → suc m ≡ 1
    one_digit n zero small f = refl
    one_digit n (suc j) small f =
        let e : suc (suc j) - 1 ≡ suc j = omega arith in
        let big : 10 ^ j * 10 ≤ n = rw (← pow-suc) (rw e at (f (omega arith))) in
        absurd (omega (arith, one-le-pow j 10 (omega arith)))

    above : (n m : ℕ) → 10 ≤ n → n < 10 ^ suc m → 1 ≤ m
    above n zero big small = absurd (omega arith)
    above n (suc m) big small = omega arith

-- a number of 64 bits has at most 20 digits
pub at_most_20 : (n k : ℕ) → n < 2 ^ 64 → IsDigitCount 10 1 n k → k ≤ 20
at_most_20 n k small f = le_of_suc-le-suc (lt_of_not-le (λ (more : 20 < k).
    let p : 10 ^ (k - 1) ≤ n = f.2 (omega arith) in
    let q : 10 ^ 20 ≤ 10 ^ (k - 1) = pow-le-pow_right {n = 10} (omega arith) {i = 20} {j = k - 1} (omega arith) in
    omega arith))

pub decimal_is : (n k : ℕ) → n < 2 ^ 64 → IsDigitCount 10 1 n k → last_digits 10 k n ≡ decimal n
unfolding decimal
decimal_is n k small f = ap (λ (j : ℕ). last_digits 10 j n) (fewest_places 19 n k f (at_most_20 n k small f))
