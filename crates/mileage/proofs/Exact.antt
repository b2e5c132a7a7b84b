-- The distance is exact.
use Prim.Native.Nat.{ℕ, ◌-◌, ◌*◌, ◌%◌, ◌^◌, ◌≤◌}
use native.Mathlib.Omega.{arith}
use mathlib.Core.Bool.{Bool, true, false}
use mathlib.Core.List.{List, [], ◌∷◌, ◌++◌}
use mathlib.Core.Path.{◌≡◌, refl, sym, ◌∙◌, ap, subst}
use Rattle.link.specs.Run.{Cargo}
use Rattle.odometer.specs.declared.Odometer.{Odometer}
use Rattle.odometer.specs.Odometer.{in_range, fresh_odometer, advance_of, fits, on_total, hear, distance_of}
use Rattle.odometer.proofs.Taking.{Taking, refused, took, taking}
use Rattle.mileage.specs.Wheel.{Sent, total, other, total_bytes, hears, accepted_by, Rising, Apart, NearTo, Near, last_of, span, shows, Exact}
use Rattle.mileage.proofs.Telling.{tells, zero_fits}
use Rattle.mileage.proofs.Hearing.{hear_total, Goes, lost_goes, refused_goes, took_goes, other_goes}
use Rattle.mileage.proofs.Turns.{standing, turns_at, taken_at, first_taken, first_at}

module _ (channel c : ℕ) (r : in_range c ≡ true) where
  abbrev at : ℕ → ℕ → Odometer
  at = standing channel c

  -- at the end it is at the last turn that it accepted
  pub record Rides (a b : ℕ) (ss : List (Sent Bool)) : Type 0 where
    pub is : hears (at a b) ss ≡ at a (last_of b (accepted_by (at a b) ss))
    pub held : fits ((last_of b (accepted_by (at a b) ss) - a) * c) ≡ true

  rides_by : {a b d : ℕ} {s : Sent Bool} {ss : List (Sent Bool)} {p : Odometer} {ns : List ℕ} → Goes (at a b) p ns s ss → p ≡ at a d → last_of b (ns ++ accepted_by (at a d) ss) ≡ last_of d (accepted_by (at a d) ss)
      → Rides a d ss → Rides a b (s ∷ ss)
  rides_by {a} {b} {d} {s} {ss} {p} {ns} g q l R =
      let w : last_of b (accepted_by (at a b) (s ∷ ss)) ≡ last_of d (accepted_by (at a d) ss)
      = ap (last_of b) (g.took_in ∙ ap (λ (o : Odometer). ns ++ accepted_by o ss) q) ∙ l in
      record { is = g.heard ∙ ap (λ (o : Odometer). hears o ss) q ∙ R.is ∙ ap (at a) (sym w); held = ap (λ (n : ℕ). fits ((n - a) * c)) w ∙ R.held }

  near_by : (b : ℕ) {o p : Odometer} {s : Sent Bool} {ss : List (Sent Bool)} {ns : List ℕ} → Goes o p ns s ss → NearTo b (accepted_by o (s ∷ ss)) → NearTo b (ns ++ accepted_by p ss)
  near_by b g near = subst (NearTo b) g.took_in near

  abbrev AllRide : List (Sent Bool) → Type 0
  AllRide ss = (a b from : ℕ) → a ≤ b → b ≤ from → Rising from ss → Apart channel ss → fits ((b - a) * c) ≡ true → NearTo b (accepted_by (at a b) ss) → Rides a b ss

  none_ride : AllRide []
  unfolding hears accepted_by
  none_ride a b from low up rise apart f near = record { is = refl; held = f }

  total_rides : (n : ℕ) (ss : List (Sent Bool)) → AllRide ss → AllRide (total n true ∷ ss)
  unfolding Rising Apart NearTo
  total_rides n ss ih a b from low up rise apart f near = go (taking (at a b) (n % 2 ^ 32))
    where
      e : hear (at a b) channel (total_bytes n) ≡ on_total (at a b) (n % 2 ^ 32)
      e = hear_total (at a b) n r

      go : Taking (at a b) (n % 2 ^ 32) → Rides a b (total n true ∷ ss)
      go (refused refusal q) =
          let g = refused_goes (at a b) ss n refusal (e ∙ q) in
          rides_by g refl refl (ih a b n low (omega arith) rise.1 apart f (near_by b g near))
      go (took h fit q) =
          let g = took_goes (at a b) ss n (n % 2 ^ 32) (advance_of (at a b) (n % 2 ^ 32)) (e ∙ q) in
          let N = near_by b g near in
          let up' : b ≤ n = omega (arith, rise.0) in
          let p = taken_at channel c a b n low up' N.0 in
          let f' : fits ((n - a) * c) ≡ true = ap (λ (k : ℕ). fits (k * c)) (sym (turns_at channel c a b n low up' N.0)) ∙ fit in
          rides_by g p refl (ih a n n (omega arith) (omega arith) rise.1 apart f' (subst (λ (o : Odometer). NearTo n (accepted_by o ss)) p N.1))

  lost_rides : (n : ℕ) (ss : List (Sent Bool)) → AllRide ss → AllRide (total n false ∷ ss)
  unfolding Rising Apart
  lost_rides n ss ih a b from low up rise apart f near =
      let g = lost_goes (at a b) ss n in
      rides_by g refl refl (ih a b n low (omega (arith, rise.0)) rise.1 apart f (near_by b g near))

  other_rides : (x : Cargo) (fate : Bool) (ss : List (Sent Bool)) → AllRide ss → AllRide (other x fate ∷ ss)
  unfolding Rising Apart
  other_rides x fate ss ih a b from low up rise apart f near =
      let g = other_goes (at a b) ss x fate apart.0 in
      rides_by g refl refl (ih a b from low up rise apart.1 f (near_by b g near))

  all_ride : (ss : List (Sent Bool)) → AllRide ss
  all_ride [] = none_ride
  all_ride (total n true ∷ ss) = total_rides n ss (all_ride ss)
  all_ride (total n false ∷ ss) = lost_rides n ss (all_ride ss)
  all_ride (other x fate ∷ ss) = other_rides x fate ss (all_ride ss)

  -- ---- from the start

  abbrev new : Odometer
  new = fresh_odometer channel c

  abbrev Starts : List (Sent Bool) → Type 0
  Starts ss = (from : ℕ) → Rising from ss → Apart channel ss → Near (accepted_by new ss) → distance_of (hears new ss) ≡ shows (span (accepted_by new ss) * c)

  -- where nothing is accepted, all is still to come
  starts_by : {s : Sent Bool} {ss : List (Sent Bool)} → Goes new new [] s ss → (Near (accepted_by new ss) → distance_of (hears new ss) ≡ shows (span (accepted_by new ss) * c))
      → Near (accepted_by new (s ∷ ss)) → distance_of (hears new (s ∷ ss)) ≡ shows (span (accepted_by new (s ∷ ss)) * c)
  starts_by g ih near = ap distance_of g.heard ∙ ih (subst Near g.took_in near) ∙ ap (λ (ns : List ℕ). shows (span ns * c)) (sym g.took_in)

  total_starts : (n : ℕ) (ss : List (Sent Bool)) → Starts (total n true ∷ ss)
  unfolding Rising Apart
  total_starts n ss from rise apart near =
      let g = took_goes new ss n (n % 2 ^ 32) 0 (first_taken channel c r n) in
      let p = first_at channel c n in
      let accs : accepted_by new (total n true ∷ ss) ≡ n ∷ accepted_by (at n n) ss = g.took_in ∙ ap (λ (o : Odometer). n ∷ accepted_by o ss) p in
      let R = all_ride ss n n n (omega arith) (omega arith) rise.1 apart (ap (λ (k : ℕ). fits (k * c)) (omega arith) ∙ zero_fits c) (subst Near accs near) in
      ap distance_of (g.heard ∙ ap (λ (o : Odometer). hears o ss) p ∙ R.is)
      ∙ tells (at n (last_of n (accepted_by (at n n) ss))) r R.held
      ∙ ap (λ (ns : List ℕ). shows (span ns * c)) (sym accs)

  all_start : (ss : List (Sent Bool)) → Starts ss
  unfolding Rising Apart hears accepted_by
  all_start [] from rise apart near = tells new r (zero_fits c)
  all_start (total n true ∷ ss) from rise apart near = total_starts n ss from rise apart near
  all_start (total n false ∷ ss) from rise apart near = starts_by (lost_goes new ss n) (all_start ss n rise.1 apart) near
  all_start (other x fate ∷ ss) from rise apart near = starts_by (other_goes new ss x fate apart.0) (all_start ss from rise apart.1) near

pub exact : Exact
exact channel c ss r rise apart near = all_start channel c r ss 0 rise apart near
