-- An odometer above the receiver that joins on the continuation bit and channel alone is told a total that the wheel never had; above ours it is not.
use Prim.Native.Nat.{ℕ, ◌*◌, ◌%◌, ◌^◌}
use native.Mathlib.Omega.{arith}
use mathlib.Core.Bool.{Bool, true, false, cond, ◌||◌}
use mathlib.Core.List.{List, [], ◌∷◌, ◌++◌}
use mathlib.Core.Path.{◌≡◌, refl, sym, ◌∙◌, ap, subst}
use lib.Dec.{eqb}
use borrow.Author.Tests.{eq-eqb, ne_eqb}
use Rattle.sender.specs.Whole.{calls_for}
use Rattle.link.specs.Run.{Cargo, receiving, outcome, finished}
use Rattle.link.specs.Demand.{every, all_arrived, wanted}
use Rattle.link.specs.Refuted as refuted
use Rattle.link.specs.Refuted.{small, zeros, Seen, cargo, Refuted}
use Rattle.link.specs.Wrong.{channel_alone}
use Rattle.link.proofs.Refute.{allowed, view, same, due, refute}
use Rattle.link.proofs.Kept.{demand_3}
use Rattle.std.specs.Prelude.{Result}
use Rattle.std.specs.Result.{result_unwrap_or}
use Rattle.refusals.specs.declared.Refusal.{Refusal}
use Rattle.odometer.specs.Total.{total_in}
use Rattle.odometer.specs.Odometer.{in_range, fresh_odometer, advance_of, fits, on_total, on_carried, hear, distance_of}
use Rattle.mileage.specs.Wheel.{Sent, total, other, total_bytes, cargo_of, arrived, Rising, Apart, NearTo, Near, span}
use Rattle.mileage.specs.Product.{shipment_of, shipments, cargo_fates, deliverable, Fair, WholeProduct}
use Rattle.mileage.specs.Spliced.{total_of, told_on, had, among, NeverHad, OnlyHad}
use Rattle.mileage.specs.Twice.{twice}
use Rattle.mileage.proofs.Hearing.{bytes_total}
use Rattle.mileage.proofs.Handed.{hear_cargoes, device_handed}

abbrev got : List Cargo
got = cargo 0 (1 ∷ 254 ∷ 255 ∷ 255 ∷ 0 ∷ []) ∷ cargo 0 (1 ∷ 255 ∷ 255 ∷ 255 ∷ 1 ∷ []) ∷ []

run : Refuted 254 channel_alone (shipments 0 twice) (refuted.shows got (2 ∷ 0 ∷ []) (0 ∷ 0 ∷ []))
unfolding shipments allowed view same due channel_alone
run = refute refl refl refl

handed_over : (outcome channel_alone small zeros zeros (shipments 0 twice)).got ≡ got
handed_over = ap (λ (s : Seen). s.got) run.sees

one_whole : deliverable small 0 twice ≡ 16777214 ∷ []
unfolding arrived cargo_fates all_arrived finished every calls_for
one_whole = refl

fair_run : Fair small 0 1600 zeros zeros twice
unfolding in_range fits Rising Apart NearTo
fair_run =
    record {
      transport = run.allowed;
      circumference_right = refl;
      rising = (omega arith, (omega arith, (omega arith, tt)));
      apart = tt;
      near = subst Near (sym one_whole) tt;
      not_too_far = rw one_whole refl;
    }

pub told_a_total_that_never_was : NeverHad channel_alone 1600 twice (16777214 ∷ 33554431 ∷ []) 33554431 26843547200
unfolding among had told_on total_in hear_cargoes hear on_carried on_total advance_of fits in_range distance_of
told_a_total_that_never_was =
    record {
      fair = fair_run;
      hears = ap (told_on 0) handed_over;
      hears_it = refl;
      never_had = refl;
      shown = ap distance_of (device_handed channel_alone small 0 1600 zeros zeros (shipments 0 twice) ∙ ap (hear_cargoes (fresh_odometer 0 1600)) handed_over);
    }

-- ---- ours tells only totals that the wheel had

or_true : (a b c : Bool) → (b ≡ true → c ≡ true) → (a || b) ≡ true → (a || c) ≡ true
or_true true b c f e = refl
or_true false b c f e = f e

or_later : (a b : Bool) → b ≡ true → (a || b) ≡ true
or_later true b e = refl
or_later false b e = e

-- the totals of what is handed over of one cargo, before those of the rest
abbrev told_of : ℕ → Bool → Cargo → List ℕ
told_of channel b x = cond b (cond (eqb x.channel channel) (total_of (total_in x.bytes)) []) []

picked : (channel : ℕ) (b : Bool) (x : Cargo) (xs : List Cargo) → told_on channel (cond b (x ∷ []) [] ++ xs) ≡ told_of channel b x ++ told_on channel xs
unfolding told_on
picked channel true x xs = refl
picked channel false x xs = refl

told_total : (channel turns : ℕ) (b : Bool) → told_of channel b record { channel = channel; bytes = total_bytes turns } ≡ cond b (turns % 2 ^ 32 ∷ []) []
told_total channel turns b =
    ap (λ (ns : List ℕ). cond b ns []) (rw (eq-eqb channel channel refl) (ap total_of (bytes_total turns)))

told_other : (channel : ℕ) (b : Bool) (x : Cargo) → (x.channel ≡ channel → ⊥) → told_of channel b x ≡ []
told_other channel true x n = rw (ne_eqb x.channel channel n) refl
told_other channel false x n = refl

module _ (largest channel n : ℕ) where
  abbrev OnlySent : List (Sent (List ℕ)) → Type 0
  OnlySent ss = among n (told_on channel (wanted largest (shipments channel ss))) ≡ true → among n (had ss) ≡ true

  total_sent : (turns : ℕ) (b : Bool) (told hads : List ℕ) → (among n told ≡ true → among n hads ≡ true) → among n (cond b (turns % 2 ^ 32 ∷ []) [] ++ told) ≡ true → among n (turns ∷ hads) ≡ true
  unfolding among
  total_sent turns true told hads f e =
      let m : turns % 2 ^ 32 % 2 ^ 32 ≡ turns % 2 ^ 32 = omega arith in
      or_true (eqb n (turns % 2 ^ 32)) (among n told) (among n hads) f (ap (λ (k : ℕ). eqb n k || among n told) (sym m) ∙ e)
  total_sent turns false told hads f e = or_later (eqb n (turns % 2 ^ 32)) (among n hads) (f e)

  only_sent : (ss : List (Sent (List ℕ))) → Apart channel ss → OnlySent ss
  unfolding Apart wanted shipments told_on had
  only_sent [] apart e = e
  only_sent (total turns fates ∷ ss) apart e =
      let b = all_arrived largest (shipment_of channel (total turns fates)) in
      let rest = told_on channel (wanted largest (shipments channel ss)) in
      let p = picked channel b (cargo_of channel (total turns fates)) (wanted largest (shipments channel ss)) ∙ ap (λ (ns : List ℕ). ns ++ rest) (told_total channel turns b) in
      total_sent turns b rest (had ss) (only_sent ss apart) (ap (among n) (sym p) ∙ e)
  only_sent (other x fates ∷ ss) apart e =
      let b = all_arrived largest (shipment_of channel (other x fates)) in
      let rest = told_on channel (wanted largest (shipments channel ss)) in
      let p = picked channel b x (wanted largest (shipments channel ss)) ∙ ap (λ (ns : List ℕ). ns ++ rest) (told_other channel b x apart.0) in
      only_sent ss apart.1 (ap (among n) (sym p) ∙ e)

pub only_had : OnlyHad receiving
only_had g channel circumference buffer out ss F n e =
    only_sent g.largest channel n ss F.apart (ap (λ (xs : List Cargo). among n (told_on channel xs)) (sym (demand_3 g buffer out (shipments channel ss) F.transport).delivered) ∙ e)

-- so that the whole product is not to be had above the other
pub not_above_channel_alone : WholeProduct channel_alone → ⊥
not_above_channel_alone P =
    let e = ap (λ (d : Result ℕ Refusal). result_unwrap_or d 0) (sym told_a_total_that_never_was.shown ∙ (P small 0 1600 zeros zeros twice fair_run).exact) in
    let z : span (deliverable small 0 twice) * 1600 ≡ 0 = rw one_whole refl in
    omega (arith, e, z)
