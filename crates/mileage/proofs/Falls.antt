-- The distance never falls, over any calls.
use mathlib.Core.List.{[], ◌∷◌}
use mathlib.Core.Path.{◌≡◌, ◌∙◌, ap}
use native.Mathlib.Nat.{le_trans, le_refl}
use Rattle.odometer.specs.declared.Odometer.{Odometer}
use Rattle.odometer.specs.declared.Heard.{Heard}
use Rattle.std.specs.Prelude.{true, is_ok}
use Rattle.odometer.specs.Odometer.{in_range, distance_of}
use Rattle.odometer.proofs.Laws.{Way, hear_way, answer_way, same_circumference, no_less, still_fits}
use Rattle.mileage.specs.Calls.{Call, cargo, answer, called, called_all, NoLess, NeverFalls}
use Rattle.mileage.proofs.Telling.{tells, told_by}

-- one call
pub way_no_less : {o : Odometer} {h : Heard} → Way o h → is_ok (distance_of o) ≡ true → NoLess o h.odometer
way_no_less {o} {h} w e =
    let t = told_by o e in
    let d = tells o t.0 t.1 in
    let n = tells h.odometer (ap in_range (same_circumference w) ∙ t.0) (still_fits w t.1) in
    record { told = ap is_ok n; far = rw (d, n) (no_less w) }

pub no_less_same : {o : Odometer} → is_ok (distance_of o) ≡ true → NoLess o o
no_less_same e = record { told = e; far = le_refl _ }

pub no_less_on : {o p q : Odometer} → NoLess o p → NoLess p q → NoLess o q
no_less_on a b = record { told = b.told; far = le_trans a.far b.far }

one : (o : Odometer) (x : Call) → is_ok (distance_of o) ≡ true → NoLess o (called o x)
one o (cargo channel bytes) e = way_no_less (hear_way o channel bytes) e
one o (answer a buffer) e = way_no_less (answer_way o a buffer) e

pub never_falls : NeverFalls
unfolding called_all
never_falls o [] e = no_less_same e
never_falls o (x ∷ xs) e = let a = one o x e in no_less_on a (never_falls (called o x) xs a.told)
