-- The mistake that the class begins with: an odometer above a receiver that joins what does not belong together.
use Rattle.std.specs.Prelude.{ℕ, ◌%◌, ◌^◌, Bool, true, false, cond, ◌||◌, List, [], ◌∷◌, ◌++◌, ◌≡◌, eqb, Option, None, Some}
use Rattle.link.specs.Run.{Setup, Cargo, Hear, outcome}
use Rattle.link.specs.Refuted.{small, zeros}
use Rattle.stream.specs.Stream.{transfers}
use Rattle.odometer.specs.Total.{total_in}
use Rattle.odometer.specs.Odometer.{distance_of}
use Rattle.mileage.specs.Wheel.{Sent, turns_of, shows}
use Rattle.mileage.specs.Product.{shipments, Fair, fresh_device, takes_all}

-- the totals that the odometer of a channel is told, one for each cargo that carries one
abbrev pub total_of : Option ℕ → List ℕ
total_of None = []
total_of (Some total) = total ∷ []

unfoldable pub told_on : ℕ → List Cargo → List ℕ
told_on channel [] = []
told_on channel (x ∷ xs) = cond (eqb x.channel channel) (total_of (total_in x.bytes)) [] ++ told_on channel xs

-- the totals that the wheel had when one was sent
unfoldable pub had : {F : Type 0} → List (Sent F) → List ℕ
had [] = []
had (s ∷ ss) = turns_of s ++ had ss

unfoldable pub among : ℕ → List ℕ → Bool
among n [] = false
among n (m ∷ ms) = eqb n (m % 2 ^ 32) || among n ms

-- a fair run on link's small link, the totals on channel 0 of it, that one told total is none that the wheel had, and
-- what is shown in the end
pub record NeverHad (hear : Hear) (circumference : ℕ) (ss : List (Sent (List ℕ))) (told : List ℕ)
    (false_total millimetres : ℕ) : Type 0 where
  pub fair : Fair small 0 circumference zeros zeros ss
  pub hears : told_on 0 (outcome hear small zeros zeros (shipments 0 ss)).got ≡ told
  pub hears_it : among false_total told ≡ true
  pub never_had : among false_total (had ss) ≡ false
  pub shown :
      distance_of (takes_all hear (fresh_device small 0 circumference zeros) (transfers small zeros (shipments 0 ss))).odometer
      ≡ shows millimetres

-- of the receiver of document 01 there is no such run: each total that it hands on is one that the wheel had
abbrev pub OnlyHad : Hear → Type 0
OnlyHad hear =
    (g : Setup) (channel circumference : ℕ) (buffer out : List ℕ) (ss : List (Sent (List ℕ)))
    → Fair g channel circumference buffer out ss
    → (n : ℕ) → among n (told_on channel (outcome hear g buffer out (shipments channel ss)).got) ≡ true
    → among n (had ss) ≡ true
