-- Where the bounds lie: one turn more, and the distance is short; one round more, and it is false.
use mathlib.Core.Bool.{true}
use mathlib.Core.List.{List, [], ◌∷◌}
use mathlib.Core.Path.{◌≡◌, refl}
use Prim.Native.Nat.{ℕ}
use Rattle.odometer.specs.Total.{total_in}
use Rattle.odometer.specs.Odometer.{in_range, fresh_odometer, advance_of, fits, on_total, on_carried, hear, distance_of}
use Rattle.mileage.specs.Wheel.{total, hears, accepted_by, shows}

-- two totals, heard by an odometer of 1,000 mm: which are accepted, and what is shown
pub record Hears (first second : ℕ) (accepted : List ℕ) (millimetres : ℕ) : Type 0 where
  pub takes : accepted_by (fresh_odometer 3 1000) (total first true ∷ total second true ∷ []) ≡ accepted
  pub tells : distance_of (hears (fresh_odometer 3 1000) (total first true ∷ total second true ∷ [])) ≡ shows millimetres

-- 2,147,483,647 turns, and one more
pub just_near : Hears 7 2147483654 (7 ∷ 2147483654 ∷ []) 2147483647000
unfolding hears accepted_by hear on_carried on_total total_in advance_of fits in_range distance_of
just_near = record { takes = refl; tells = refl }

pub one_more : Hears 7 2147483655 (7 ∷ []) 0
unfolding hears accepted_by hear on_carried on_total total_in advance_of fits in_range distance_of
one_more = record { takes = refl; tells = refl }

-- the running total comes round; and a whole round unheard is not counted, which is why fewer turns are asked for
pub comes_round : Hears 4294967295 4294967298 (4294967295 ∷ 4294967298 ∷ []) 3000
unfolding hears accepted_by hear on_carried on_total total_in advance_of fits in_range distance_of
comes_round = record { takes = refl; tells = refl }

pub a_round_unheard : Hears 7 4294967305 (7 ∷ 4294967305 ∷ []) 2000
unfolding hears accepted_by hear on_carried on_total total_in advance_of fits in_range distance_of
a_round_unheard = record { takes = refl; tells = refl }
