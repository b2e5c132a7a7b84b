-- What follows from demand 3, of any receiving function that keeps it.
use Prim.Native.Nat.{ℕ, zero, suc, ◌%◌, ◌^◌}
use native.Mathlib.Omega.{arith}
use mathlib.Core.Bool.{Bool, true, false, cond, and-true}
use mathlib.Core.List.{List, [], ◌∷◌, ◌++◌}
use mathlib.Core.Path.{◌≡◌, refl, ◌∙◌, ap}
use lib.Dec.{eqb}
use Rattle.link.specs.Run.{Cargo, Shipment, Hear}
use Rattle.link.specs.Demand.{fates_of, all_arrived, wanted, every, lost, surplus, Kept}
use Rattle.link.specs.Follows.{cargoes_on, shipments_on, ByChannel, Once, AllOnce, finished_of, OnCleanWire}

-- ---- channel by channel

wanted_on : (largest c : ℕ) (xs : List Shipment) → cargoes_on c (wanted largest xs) ≡ wanted largest (shipments_on c xs)
unfolding cargoes_on shipments_on wanted
wanted_on largest c [] = refl
wanted_on largest c (x ∷ xs) = go (eqb x.cargo.channel c) (all_arrived largest x) refl refl (wanted_on largest c xs)
  where
    go : (b d : Bool) → eqb x.cargo.channel c ≡ b → all_arrived largest x ≡ d → cargoes_on c (wanted largest xs) ≡ wanted largest (shipments_on c xs)
        → cargoes_on c (cond d (x.cargo ∷ []) [] ++ wanted largest xs) ≡ wanted largest (cond b (x ∷ []) [] ++ shipments_on c xs)
    go true true e f ih = simp (e, f) (ap (λ (y : List Cargo). x.cargo ∷ y) ih)
    go true false e f ih = simp f ih
    go false true e f ih = simp e ih
    go false false e f ih = ih

pub by_channel : {hear : Hear} → Kept hear → ByChannel hear
by_channel K g buffer out xs A c = ap (λ (y : List Cargo). cargoes_on c y) (K g buffer out xs A).delivered ∙ wanted_on g.largest c xs

-- ---- every transfer arrives once

not_lost : {P : Type 0} → ◌≡◌ {A = ℕ} 0 1 → P
not_lost e = absurd (omega arith)

once_every : (fs : List ℕ) → Once fs → every fs ≡ true
unfolding Once every
once_every [] h = refl
once_every (zero ∷ fs) h = not_lost h.0
once_every (suc k ∷ fs) h = once_every fs h.1

once_lost : (fs : List ℕ) → Once fs → lost fs ≡ 0
unfolding Once lost
once_lost [] h = refl
once_lost (zero ∷ fs) h = not_lost h.0
once_lost (suc k ∷ fs) h = once_lost fs h.1

once_surplus : (fs : List ℕ) → Once fs → surplus fs ≡ 0
unfolding Once surplus
once_surplus [] h = refl
once_surplus (zero ∷ fs) h = not_lost h.0
once_surplus (suc k ∷ fs) h = let e = h.0 in omega (arith, once_surplus fs h.1)

once_append : (fs hs : List ℕ) → Once fs → Once hs → Once (fs ++ hs)
unfolding Once
once_append [] hs a b = b
once_append (k ∷ fs) hs a b = (a.0, once_append fs hs a.1 b)

once_on : (b : Bool) (fs : List ℕ) → Once fs → Once (cond b fs [])
unfolding Once
once_on true fs h = h
once_on false fs h = tt

once_fates : (c : ℕ) (xs : List Shipment) → AllOnce xs → Once (fates_of c xs)
unfolding AllOnce Once fates_of
once_fates c [] h = tt
once_fates c (x ∷ xs) h = once_append (cond (eqb x.cargo.channel c) x.fates []) (fates_of c xs) (once_on (eqb x.cargo.channel c) x.fates h.0) (once_fates c xs h.1)

once_wanted : (largest : ℕ) (xs : List Shipment) → AllOnce xs → wanted largest xs ≡ finished_of largest xs
unfolding AllOnce wanted all_arrived finished_of
once_wanted largest [] h = refl
once_wanted largest (x ∷ xs) h = simp (once_every x.fates h.0, and-true, once_wanted largest xs h.1)

pub on_clean_wire : {hear : Hear} → Kept hear → OnCleanWire hear
on_clean_wire K g buffer out xs A once =
    let k = K g buffer out xs A in
    record {
      delivered = k.delivered ∙ once_wanted g.largest xs once;
      missing = λ c i. k.missing c i ∙ ap (λ (n : ℕ). n % 2 ^ 32) (once_lost (fates_of c xs) (once_fates c xs once));
      repeats = λ c i. k.repeats c i ∙ ap (λ (n : ℕ). n % 2 ^ 32) (once_surplus (fates_of c xs) (once_fates c xs once));
    }
