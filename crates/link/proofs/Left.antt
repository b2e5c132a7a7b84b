-- How many transfers of a cargo are left.
use Prim.Native.Nat.{ℕ, zero, suc, ◌+◌, ◌-◌, ◌≤◌, ◌<◌}
use native.Mathlib.Omega.{arith}
use native.Mathlib.Nat.{div-eq_of_lt}
use mathlib.Core.Bool.{Bool, true, false}
use mathlib.Core.List.{List, [], ◌∷◌}
use mathlib.Core.Path.{◌≡◌, refl, ◌∙◌}
use lib.ListN.{length}
use lib.Dec.{ltb, leb}
use borrow.Author.Tests.{ltb-true, ltb-false, leb-true, leb-false}
use Rattle.sender.specs.Whole.{calls_for}
use Rattle.sender.proofs.Whole.{calls_last, calls_more}
use Rattle.link.specs.Run.{Cargo}
use Rattle.link.proofs.Places.{carry, carry_is, next, next_le}

pub calls_zero : (largest : ℕ) → 5 ≤ largest → calls_for largest 0 ≡ 0
unfolding calls_for
calls_zero largest h = div-eq_of_lt (omega arith)

calls_step : (largest n : ℕ) → 5 ≤ largest → 1 ≤ n → calls_for largest n ≡ suc (calls_for largest (n - carry largest n))
calls_step largest n h k = go (leb n (largest - 4)) refl
  where
    go : (b : Bool) → leb n (largest - 4) ≡ b → calls_for largest n ≡ suc (calls_for largest (n - carry largest n))
    go true e =
        let small : n ≤ largest - 4 = leb-true n (largest - 4) e in
        let none : n - carry largest n ≡ 0 = omega (arith, carry_is largest n) in
        calls_last largest n h k small ∙ rw (none, calls_zero largest h)
    go false e =
        let big : largest - 4 < n = leb-false n (largest - 4) e in
        let c : n - carry largest n ≡ n - (largest - 4) = omega (arith, carry_is largest n) in
        rw c (omega (arith, calls_more largest n h big))

pub left_some : (largest n : ℕ) → 5 ≤ largest → 1 ≤ calls_for largest n → 1 ≤ n
left_some largest zero h k = absurd (omega (arith, calls_zero largest h))
left_some largest (suc n) h k = omega arith

pub left_step : (largest m o : ℕ) → 5 ≤ largest → o < m → calls_for largest (m - o) ≡ suc (calls_for largest (m - (o + carry largest (m - o))))
left_step largest m o h k =
    let e : m - o - carry largest (m - o) ≡ m - (o + carry largest (m - o)) = omega arith in
    rw e at (calls_step largest (m - o) h (omega arith))

-- the place that these transfers reach from o
unfoldable pub reach : ℕ → Cargo → ℕ → List ℕ → ℕ
reach largest x o [] = o
reach largest x o (k ∷ fs) = reach largest x (next largest x o) fs

-- a finished cargo's sender is at its end
reach_none : (largest m o : ℕ) → 5 ≤ largest → o ≤ m → 0 ≡ calls_for largest (m - o) → o ≡ m
reach_none largest m o h k e = go (ltb o m) refl
  where
    go : (b : Bool) → ltb o m ≡ b → o ≡ m
    go true f = absurd (omega (arith, left_step largest m o h (ltb-true o m f)))
    go false f = omega (arith, ltb-false o m f)

pub reach_end : (largest : ℕ) (x : Cargo) (fs : List ℕ) (o : ℕ) → 5 ≤ largest → o ≤ length x.bytes → length fs ≡ calls_for largest (length x.bytes - o)
    → reach largest x o fs ≡ length x.bytes
unfolding reach
reach_end largest x [] o h k e = reach_none largest (length x.bytes) o h k e
reach_end largest x (j ∷ fs) o h k e =
    let some_left : 1 ≤ length x.bytes - o = left_some largest (length x.bytes - o) h (omega arith) in
    reach_end largest x fs (next largest x o) h (next_le largest x o k) (omega (arith, left_step largest (length x.bytes) o h (omega arith)))
