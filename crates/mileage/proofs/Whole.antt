-- The whole product, proved.
use Prim.Native.Nat.{ℕ, ◌*◌}
use mathlib.Core.Bool.{Bool, true, false, cond}
use mathlib.Core.List.{List, [], ◌∷◌, ◌++◌}
use mathlib.Core.Path.{◌≡◌, refl, sym, ◌∙◌, ap, subst}
use Rattle.link.specs.Run.{Setup, Cargo, Hear, receiving}
use Rattle.link.specs.Demand.{all_arrived, wanted}
use Rattle.link.proofs.Kept.{demand_3}
use Rattle.stream.specs.Stream.{fresh}
use Rattle.stream.proofs.Kept.{demand_3_over_uart}
use Rattle.odometer.specs.declared.Odometer.{Odometer}
use Rattle.std.specs.Prelude.{is_ok}
use Rattle.odometer.specs.Odometer.{in_range, fresh_odometer, hear, distance_of}
use Rattle.odometer.proofs.Laws.{hear_way, answer_way, same_channel}
use Rattle.mileage.specs.Calls.{NoLess}
use Rattle.mileage.specs.Wheel.{Sent, total, other, cargo_of, fate_of, hears, Rising, Apart, Near, span, shows}
use Rattle.mileage.specs.Product.{shipment_of, shipments, cargo_fate, cargo_fates, deliverable, Device, fresh_device, takes, takes_all, Rider, Fair, WholeProduct, WholeProductOverUart}
use Rattle.mileage.proofs.Telling.{tells, zero_fits}
use Rattle.mileage.proofs.Falls.{way_no_less, no_less_on, no_less_same}
use Rattle.mileage.proofs.Exact.{exact}
use Rattle.mileage.proofs.Accepted.{all_accepted}
use Rattle.mileage.proofs.Handed.{hear_cargoes, device_handed, all_ridden}

-- ---- the cargoes that are delivered are those of the wheel that arrive

rising_fates : (largest channel from : ℕ) (ss : List (Sent (List ℕ))) → Rising from ss → Rising from (cargo_fates largest channel ss)
unfolding Rising cargo_fates
rising_fates largest channel from [] h = tt
rising_fates largest channel from (total n fates ∷ ss) h = (h.0, rising_fates largest channel n ss h.1)
rising_fates largest channel from (other x fates ∷ ss) h = rising_fates largest channel from ss h

apart_fates : (largest channel : ℕ) (ss : List (Sent (List ℕ))) → Apart channel ss → Apart channel (cargo_fates largest channel ss)
unfolding Apart cargo_fates
apart_fates largest channel [] h = tt
apart_fates largest channel (total n fates ∷ ss) h = apart_fates largest channel ss h
apart_fates largest channel (other x fates ∷ ss) h = (h.0, apart_fates largest channel ss h.1)

picked : (o : Odometer) (b : Bool) (x : Cargo) (xs : List Cargo) → hear_cargoes o (cond b (x ∷ []) [] ++ xs) ≡ hear_cargoes (cond b (hear o x.channel x.bytes).odometer o) xs
unfolding hear_cargoes
picked o true x xs = refl
picked o false x xs = refl

kept_channel : (o : Odometer) (b : Bool) (x : Cargo) (channel : ℕ) → o.channel ≡ channel → (cond b (hear o x.channel x.bytes).odometer o).channel ≡ channel
kept_channel o true x channel e = same_channel (hear_way o x.channel x.bytes) ∙ e
kept_channel o false x channel e = e

same_cargo : (largest channel : ℕ) (s : Sent (List ℕ)) → cargo_of channel (cargo_fate largest channel s) ≡ cargo_of channel s
same_cargo largest channel (total n fates) = refl
same_cargo largest channel (other x fates) = refl

same_fate : (largest channel : ℕ) (s : Sent (List ℕ)) → fate_of (cargo_fate largest channel s) ≡ all_arrived largest (shipment_of channel s)
same_fate largest channel (total n fates) = refl
same_fate largest channel (other x fates) = refl

wanted_heard : (largest channel : ℕ) (ss : List (Sent (List ℕ))) (o : Odometer) → o.channel ≡ channel
    → hear_cargoes o (wanted largest (shipments channel ss)) ≡ hears o (cargo_fates largest channel ss)
unfolding hear_cargoes wanted shipments hears cargo_fates
wanted_heard largest channel [] o e = refl
wanted_heard largest channel (s ∷ ss) o e =
    let b = all_arrived largest (shipment_of channel s) in
    let x = cargo_of channel s in
    picked o b x (wanted largest (shipments channel ss))
    ∙ wanted_heard largest channel ss (cond b (hear o x.channel x.bytes).odometer o) (kept_channel o b x channel e)
    ∙ ap (λ (y : Cargo). hears (cond b (hear o y.channel y.bytes).odometer o) (cargo_fates largest channel ss)) (sym (ap (λ (c : ℕ). cargo_of c (cargo_fate largest channel s)) e ∙ same_cargo largest channel s))
    ∙ ap (λ (f : Bool). hears (cond f (hear o (cargo_of o.channel (cargo_fate largest channel s)).channel (cargo_of o.channel (cargo_fate largest channel s)).bytes).odometer o) (cargo_fates largest channel ss)) (sym (same_fate largest channel s))

module _ {g : Setup} {channel circumference : ℕ} {buffer out : List ℕ} {ss : List (Sent (List ℕ))} (F : Fair g channel circumference buffer out ss) where
  abbrev new : Odometer
  new = fresh_odometer channel circumference

  -- what an odometer shows that has heard the cargoes of the demand
  shown : {xs : List Cargo} → xs ≡ wanted g.largest (shipments channel ss) → distance_of (hear_cargoes new xs) ≡ shows (span (deliverable g channel ss) * circumference)
  shown e =
      let fates = cargo_fates g.largest channel ss in
      let rise = rising_fates g.largest channel 0 ss F.rising in
      let apart = apart_fates g.largest channel ss F.apart in
      let all = all_accepted channel circumference fates F.circumference_right rise apart F.near F.not_too_far in
      ap (λ (ys : List Cargo). distance_of (hear_cargoes new ys)) e
      ∙ ap distance_of (wanted_heard g.largest channel ss new refl)
      ∙ exact channel circumference fates F.circumference_right rise apart (subst Near (sym all) F.near)
      ∙ ap (λ (ns : List ℕ). shows (span ns * circumference)) all

-- ---- never less than before

takes_no_less : (hearing : Hear) (d : Device) (ts : List (List ℕ)) → is_ok (distance_of d.odometer) ≡ true → NoLess d.odometer (takes_all hearing d ts).odometer
unfolding takes_all takes
takes_no_less hearing d [] e = no_less_same e
takes_no_less hearing d (t ∷ ts) e =
    let h = hearing d.receiver d.buffer t in
    let a = way_no_less (answer_way d.odometer h.received.answer h.buffer) e in
    no_less_on a (takes_no_less hearing (takes hearing d t) ts a.told)

takes_append : (hearing : Hear) (d : Device) (ts us : List (List ℕ)) → takes_all hearing d (ts ++ us) ≡ takes_all hearing (takes_all hearing d ts) us
unfolding takes_all
takes_append hearing d [] us = refl
takes_append hearing d (t ∷ ts) us = takes_append hearing (takes hearing d t) ts us

new_told : (channel circumference : ℕ) → in_range circumference ≡ true → is_ok (distance_of (fresh_odometer channel circumference)) ≡ true
new_told channel circumference r = ap is_ok (tells (fresh_odometer channel circumference) r (zero_fits circumference))

pub whole_product : WholeProduct receiving
whole_product g channel circumference buffer out ss F =
    let d = fresh_device g channel circumference buffer in
    record {
      exact = ap distance_of (device_handed receiving g channel circumference buffer out (shipments channel ss)) ∙ shown F (demand_3 g buffer out (shipments channel ss) F.transport).delivered;
      never_less = λ ts us.
          let a = takes_no_less receiving d ts (new_told channel circumference F.circumference_right) in
          rw (takes_append receiving d ts us) (takes_no_less receiving (takes_all receiving d ts) us a.told).far;
    }

pub whole_product_over_uart : WholeProductOverUart
unfolding hear_cargoes
whole_product_over_uart g channel circumference message buffer out slices ss F carried =
    ap (λ (r : Rider). distance_of r.odometer) (all_ridden (fresh_odometer channel circumference) slices (fresh g message buffer))
    ∙ shown F (demand_3_over_uart g message buffer out slices (shipments channel ss) F.transport carried).delivered
