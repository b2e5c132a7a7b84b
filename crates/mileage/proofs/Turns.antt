-- An odometer at a turn of the wheel: what one total more makes of it.
use Prim.Native.Nat.{ℕ, ◌+◌, ◌-◌, ◌%◌, ◌^◌, ◌≤◌, ◌<◌}
use native.Mathlib.Omega.{arith}
use mathlib.Core.Bool.{true}
use mathlib.Core.Path.{◌≡◌, ◌∙◌, ap}
use Rattle.odometer.specs.declared.Odometer.{Odometer}
use Rattle.odometer.specs.Odometer.{in_range, fresh_odometer, advance_of, hear}
use Rattle.odometer.proofs.Taking.{taken_as, taken}
use Rattle.mileage.specs.Wheel.{total_bytes}
use Rattle.mileage.proofs.Telling.{zero_fits}
use Rattle.mileage.proofs.Hearing.{hear_total}

module _ (channel c : ℕ) where
  -- its base is at turn a, and the last total that it accepted was of turn b
  abbrev pub standing : ℕ → ℕ → Odometer
  standing a b = record { channel = channel; circumference = c; based = true; last = b % 2 ^ 32; turns = b - a }

  -- "the difference modulo 4,294,967,296" is the true one, where it is small
  pub advance_at : (a b n : ℕ) → b ≤ n → n - b < 2 ^ 31 → advance_of (standing a b) (n % 2 ^ 32) ≡ n - b
  unfolding advance_of
  advance_at a b n up near = omega arith

  pub turns_at : (a b n : ℕ) → a ≤ b → b ≤ n → n - b < 2 ^ 31 → b - a + advance_of (standing a b) (n % 2 ^ 32) ≡ n - a
  turns_at a b n low up near = omega (arith, advance_at a b n up near)

  pub taken_at : (a b n : ℕ) → a ≤ b → b ≤ n → n - b < 2 ^ 31 → (taken_as (standing a b) (n % 2 ^ 32) (advance_of (standing a b) (n % 2 ^ 32))).odometer ≡ standing a n
  taken_at a b n low up near =
      ap (λ (turns : ℕ). record { channel = channel; circumference = c; based = true; last = n % 2 ^ 32; turns = turns }) (turns_at a b n low up near)

  -- the first total sets the base
  pub first_taken : in_range c ≡ true → (n : ℕ) → hear (fresh_odometer channel c) channel (total_bytes n) ≡ taken_as (fresh_odometer channel c) (n % 2 ^ 32) 0
  unfolding advance_of
  first_taken r n = hear_total (fresh_odometer channel c) n r ∙ taken (fresh_odometer channel c) (n % 2 ^ 32) (omega arith) (zero_fits c)

  pub first_at : (n : ℕ) → (taken_as (fresh_odometer channel c) (n % 2 ^ 32) 0).odometer ≡ standing n n
  first_at n = ap (λ (turns : ℕ). record { channel = channel; circumference = c; based = true; last = n % 2 ^ 32; turns = turns }) (omega arith)
