-- Which odometers tell their distance.
use Prim.Native.Nat.{ℕ, ◌*◌, ◌^◌, ◌<◌}
use native.Mathlib.Nat.{zero-mul}
use native.Mathlib.Omega.{arith}
use mathlib.Core.Bool.{Bool, true, false}
use mathlib.Core.Path.{◌≡◌, refl, ◌∙◌, ap}
use borrow.Author.Tests.{lt-ltb}
use Rattle.laws.proofs.Tests.{clash}
use Rattle.std.specs.Prelude.{is_ok}
use Rattle.odometer.specs.declared.Odometer.{Odometer}
use Rattle.odometer.specs.Odometer.{in_range, fits, millimetres, distance_of}
use Rattle.mileage.specs.Wheel.{shows}

pub tells : (o : Odometer) → in_range o.circumference ≡ true → fits (millimetres o) ≡ true → distance_of o ≡ shows (millimetres o)
unfolding distance_of
tells o r f = simp (r, f)

pub told_by : (o : Odometer) → is_ok (distance_of o) ≡ true → (in_range o.circumference ≡ true) × (fits (millimetres o) ≡ true)
unfolding distance_of
told_by o e = go (in_range o.circumference) (fits (millimetres o)) refl refl
  where
    untold : false ≡ true → ⊥
    untold e = clash (cc)

    go : (r f : Bool) → in_range o.circumference ≡ r → fits (millimetres o) ≡ f → (in_range o.circumference ≡ true) × (fits (millimetres o) ≡ true)
    go true true p q = (p, q)
    go true false p q = absurd (untold (rw (p, q) at e))
    go false f p q = absurd (untold (rw p at e))

pub small_fits : (n : ℕ) → n < 2 ^ 64 → fits n ≡ true
unfolding fits
small_fits n h = lt-ltb n (2 ^ 64) h

-- no turns are no millimetres
pub zero_fits : (c : ℕ) → fits (0 * c) ≡ true
zero_fits c = ap fits (zero-mul c) ∙ small_fits 0 (omega arith)
