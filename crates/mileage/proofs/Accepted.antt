-- Every total that arrives is accepted, where few turns pass between them.
use Prim.Native.Nat.{ℕ, ◌+◌, ◌-◌, ◌*◌, ◌%◌, ◌^◌, ◌≤◌, ◌<◌}
use native.Mathlib.Nat.{mul-le-mul_right}
use native.Mathlib.Omega.{arith}
use mathlib.Core.Bool.{Bool, true, false}
use mathlib.Core.List.{List, [], ◌∷◌, ◌++◌}
use mathlib.Core.Path.{◌≡◌, refl, sym, ◌∙◌, ap}
use Rattle.odometer.specs.declared.Odometer.{Odometer}
use Rattle.odometer.specs.Odometer.{in_range, fresh_odometer, advance_of, fits}
use Rattle.odometer.proofs.Room.{fitting}
use Rattle.odometer.proofs.Taking.{taken}
use Rattle.mileage.specs.Wheel.{Sent, total, other, arrived, accepted_by, Rising, Apart, NearTo, Near, last_of, span, AllAccepted}
use Rattle.mileage.proofs.Telling.{small_fits}
use Rattle.mileage.proofs.Hearing.{hear_total, none, took_goes, other_goes}
use Rattle.mileage.proofs.Turns.{standing, advance_at, turns_at, taken_at, first_taken, first_at}

last_rises : (ss : List (Sent Bool)) (n from : ℕ) → n ≤ from → Rising from ss → n ≤ last_of n (arrived ss)
unfolding Rising arrived
last_rises [] n from up rise = omega arith
last_rises (total m true ∷ ss) n from up rise = let l = last_rises ss m m (omega arith) rise.1 in omega (arith, rise.0)
last_rises (total m false ∷ ss) n from up rise = last_rises ss n m (omega (arith, rise.0)) rise.1
last_rises (other x fate ∷ ss) n from up rise = rw (none {A = ℕ} fate) (last_rises ss n from up rise)

module _ (channel c : ℕ) (r : in_range c ≡ true) where
  abbrev at : ℕ → ℕ → Odometer
  at = standing channel c

  abbrev AllTaken : List (Sent Bool) → Type 0
  AllTaken ss = (a b from : ℕ) → a ≤ b → b ≤ from → Rising from ss → Apart channel ss → NearTo b (arrived ss) → (last_of b (arrived ss) - a) * c < 2 ^ 64 → accepted_by (at a b) ss ≡ arrived ss

  total_taken : (n : ℕ) (ss : List (Sent Bool)) → AllTaken ss → AllTaken (total n true ∷ ss)
  unfolding Rising Apart NearTo arrived
  total_taken n ss ih a b from low up rise apart near far =
      let up' : b ≤ n = omega (arith, rise.0) in
      let adv = advance_at channel c a b n up' near.0 in
      let last : n ≤ last_of n (arrived ss) = last_rises ss n n (omega arith) rise.1 in
      let l : n - a ≤ last_of n (arrived ss) - a = omega arith in
      let m : (n - a) * c ≤ (last_of n (arrived ss) - a) * c = mul-le-mul_right c l in
      let f : fits ((b - a + advance_of (at a b) (n % 2 ^ 32)) * c) ≡ true
      = ap (λ (k : ℕ). fits (k * c)) (turns_at channel c a b n low up' near.0) ∙ small_fits ((n - a) * c) (omega arith) in
      let e = hear_total (at a b) n r ∙ taken (at a b) (n % 2 ^ 32) (omega (arith, near.0)) f in
      let g = took_goes (at a b) ss n (n % 2 ^ 32) (advance_of (at a b) (n % 2 ^ 32)) e in
      g.took_in ∙ ap (λ (o : Odometer). n ∷ accepted_by o ss) (taken_at channel c a b n low up' near.0) ∙ ap (λ (ns : List ℕ). n ∷ ns) (ih a n n (omega arith) (omega arith) rise.1 apart near.1 far)

  all_taken : (ss : List (Sent Bool)) → AllTaken ss
  unfolding Rising Apart arrived accepted_by
  all_taken [] a b from low up rise apart near far = refl
  all_taken (total n true ∷ ss) a b from low up rise apart near far = total_taken n ss (all_taken ss) a b from low up rise apart near far
  all_taken (total n false ∷ ss) a b from low up rise apart near far = all_taken ss a b n low (omega (arith, rise.0)) rise.1 apart near far
  all_taken (other x fate ∷ ss) a b from low up rise apart near far =
      (other_goes (at a b) ss x fate apart.0).took_in
      ∙ all_taken ss a b from low up rise apart.1 (rw (none {A = ℕ} fate) at near) (rw (none {A = ℕ} fate) at far)
      ∙ ap (λ (ns : List ℕ). ns ++ arrived ss) (sym (none fate))

  -- ---- from the start

  abbrev new : Odometer
  new = fresh_odometer channel c

  abbrev StartsTaken : List (Sent Bool) → Type 0
  StartsTaken ss = (from : ℕ) → Rising from ss → Apart channel ss → Near (arrived ss) → span (arrived ss) * c < 2 ^ 64 → accepted_by new ss ≡ arrived ss

  all_start_taken : (ss : List (Sent Bool)) → StartsTaken ss
  unfolding Rising Apart arrived accepted_by
  all_start_taken [] from rise apart near far = refl
  all_start_taken (total n true ∷ ss) from rise apart near far =
      (took_goes new ss n (n % 2 ^ 32) 0 (first_taken channel c r n)).took_in
      ∙ ap (λ (o : Odometer). n ∷ accepted_by o ss) (first_at channel c n)
      ∙ ap (λ (ns : List ℕ). n ∷ ns) (all_taken ss n n n (omega arith) (omega arith) rise.1 apart near far)
  all_start_taken (total n false ∷ ss) from rise apart near far = all_start_taken ss n rise.1 apart near far
  all_start_taken (other x fate ∷ ss) from rise apart near far =
      (other_goes new ss x fate apart.0).took_in
      ∙ all_start_taken ss from rise apart.1 (rw (none {A = ℕ} fate) at near) (rw (none {A = ℕ} fate) at far)
      ∙ ap (λ (ns : List ℕ). ns ++ arrived ss) (sym (none fate))

pub all_accepted : AllAccepted
all_accepted channel c ss r rise apart near far = all_start_taken channel c r ss 0 rise apart near (fitting _ far)
