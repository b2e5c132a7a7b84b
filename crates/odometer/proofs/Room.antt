-- Where 64 bits hold turns times circumference.
use Rattle.std.proofs.Common.{◌≡◌, ℕ, ◌*◌, ◌^◌, ◌≤◌, ◌<◌, true, false, cond, not, sym, arith, is_some}
use Rattle.std.specs.Prelude.{Option, None, Some, Ok, Err}
use Rattle.std.specs.Option.{SomeIff, ok_or}
use native.Mathlib.Nat.{mul-le-mul_left, mul-one}
use borrow.Author.Tests.{lt-ltb, le-ltb, ltb-true, leb-true}
use Rattle.laws.proofs.Tests.{and-true}
use Rattle.odometer.specs.Odometer.{in_range, fits}

pub in_range_lem : (c : ℕ) → in_range c ≡ true → (1 ≤ c) × (c ≤ 10000)
unfolding in_range
in_range_lem c e = let a = and-true _ _ e in (leb-true _ _ a.0, leb-true _ _ a.1)

pub fitting : (n : ℕ) → fits n ≡ true → n < 2 ^ 64
unfolding fits
fitting n e = ltb-true n (2 ^ 64) e

-- a factor is no more than the product
pub factor : (n c : ℕ) → 1 ≤ c → n ≤ n * c
factor n c some = let p : n * 1 ≤ n * c = mul-le-mul_left n some in omega (arith, mul-one n)

-- a number that 64 bits hold is told, and no other
pub held : (r : Option ℕ) (n : ℕ) → SomeIff r (n < 2 ^ 64) n → is_some r ≡ fits n
unfolding fits
held None n s = sym (le-ltb n (2 ^ 64) (omega (arith, s)))
held (Some x) n s = sym (lt-ltb n (2 ^ 64) s.0)

-- what is too long already stays so
pub too_many : (n c : ℕ) → 1 ≤ c → (n < 2 ^ 64 → ⊥) → fits (n * c) ≡ false
unfolding fits
too_many n c some h = le-ltb (n * c) (2 ^ 64) (omega (arith, h, factor n c some))

pub told_or : {E : Type 0} (r : Option ℕ) (n : ℕ) (e : E) → SomeIff r (n < 2 ^ 64) n → ok_or r e ≡ cond (not (fits n)) (Err e) (Ok n)
unfolding fits
told_or None n e s = rw (le-ltb n (2 ^ 64) (omega (arith, s)))
told_or (Some x) n e s = rw (lt-ltb n (2 ^ 64) s.0, s.1)
