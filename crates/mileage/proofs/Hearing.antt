-- One cargo, heard by any odometer.
use Prim.Native.Nat.{ℕ, ◌+◌, ◌*◌, ◌/◌, ◌%◌, ◌^◌}
use native.Mathlib.Omega.{arith}
use mathlib.Core.Bool.{Bool, true, false, cond}
use mathlib.Core.List.{List, [], ◌∷◌, ◌++◌}
use mathlib.Core.Path.{◌≡◌, refl, ◌∙◌, ap}
use borrow.Author.Tests.{eq-eqb}
use Rattle.link.specs.Run.{Cargo}
use Rattle.odometer.specs.declared.Odometer.{Odometer}
use Rattle.odometer.specs.declared.Heard.{Heard}
use Rattle.std.specs.Prelude.{Option, Some}
use Rattle.odometer.specs.declared.outcomes.Outcome.TheVariants.{Refused}
use Rattle.refusals.specs.declared.Refusal.{Refusal}
use Rattle.odometer.specs.Total.{total_in}
use Rattle.odometer.specs.Odometer.{in_range, accepted, unchanged, on_total, on_carried, hear}
use Rattle.odometer.proofs.Taking.{taken_as}
use Rattle.odometer.proofs.Laws.{hear_way, same_channel, passed_over}
use Rattle.mileage.specs.Wheel.{Sent, total, other, total_bytes, hears, accepts, accepted_by, Apart, totals_only, OthersNothing}

two : (n : ℕ) → n % 256 + n / 256 % 256 * 256 ≡ n % 65536
two n = omega arith

three : (n : ℕ) → n % 65536 + n / 65536 % 256 * 65536 ≡ n % 16777216
three n = omega arith

four : (n : ℕ) → n % 16777216 + n / 16777216 % 256 * 16777216 ≡ n % 2 ^ 32
four n = omega arith

pub bytes_total : (n : ℕ) → total_in (total_bytes n) ≡ Some (n % 2 ^ 32)
unfolding total_in
bytes_total n =
    ap (λ (x : ℕ). Some (x + n / 65536 % 256 * 65536 + n / 16777216 % 256 * 16777216)) (two n)
    ∙ ap (λ (x : ℕ). Some (x + n / 16777216 % 256 * 16777216)) (three n)
    ∙ ap Some (four n)

pub hear_total : (o : Odometer) (n : ℕ) → in_range o.circumference ≡ true → hear o o.channel (total_bytes n) ≡ on_total o (n % 2 ^ 32)
unfolding hear on_carried
hear_total o n r = simp (r, eq-eqb o.channel o.channel refl, bytes_total n)

-- what the odometer has heard after the first of these is what p has to hear
pub record Goes (o p : Odometer) (ns : List ℕ) (s : Sent Bool) (ss : List (Sent Bool)) : Type 0 where
  pub heard : hears o (s ∷ ss) ≡ hears p ss
  pub took_in : accepted_by o (s ∷ ss) ≡ ns ++ accepted_by p ss

accepts_any : (b : Bool) (n : ℕ) → accepts (accepted b n) ≡ true
accepts_any true n = refl
accepts_any false n = refl

pub none : {A : Type 0} (b : Bool) → cond {A = List A} b [] [] ≡ []
none true = refl
none false = refl

module _ (o : Odometer) (ss : List (Sent Bool)) where
  pub lost_goes : (n : ℕ) → Goes o o [] (total n false) ss
  unfolding hears accepted_by
  lost_goes n = record { heard = refl; took_in = refl }

  pub refused_goes : (n : ℕ) (refusal : Refusal) {carried : Option ℕ} → hear o o.channel (total_bytes n) ≡ unchanged o (Refused refusal) carried → Goes o o [] (total n true) ss
  unfolding hears accepted_by
  refused_goes n refusal e =
      record {
        heard = ap (λ (h : Heard). hears h.odometer ss) e;
        took_in = ap (λ (h : Heard). cond (accepts h.outcome) (n ∷ []) [] ++ accepted_by h.odometer ss) e;
      }

  pub took_goes : (n t turns : ℕ) → hear o o.channel (total_bytes n) ≡ taken_as o t turns → Goes o (taken_as o t turns).odometer (n ∷ []) (total n true) ss
  unfolding hears accepted_by
  took_goes n t turns e =
      record {
        heard = ap (λ (h : Heard). hears h.odometer ss) e;
        took_in = ap (λ (h : Heard). cond (accepts h.outcome) (n ∷ []) [] ++ accepted_by h.odometer ss) e
            ∙ ap (λ (b : Bool). cond b (n ∷ []) [] ++ accepted_by (taken_as o t turns).odometer ss) (accepts_any o.based turns);
      }

  pub other_goes : (x : Cargo) (b : Bool) → (x.channel ≡ o.channel → ⊥) → Goes o o [] (other x b) ss
  unfolding hears accepted_by
  other_goes x false n = record { heard = refl; took_in = refl }
  other_goes x true n =
      let e = passed_over o x.channel x.bytes n in
      record {
        heard = ap (λ (p : Odometer). hears p ss) e;
        took_in = ap (λ (ns : List ℕ). ns ++ accepted_by (hear o x.channel x.bytes).odometer ss) (none (accepts (hear o x.channel x.bytes).outcome))
            ∙ ap (λ (p : Odometer). accepted_by p ss) e;
      }

-- ---- other channels

same_channel_on : (o : Odometer) (ss : List (Sent Bool)) (n : ℕ) (b : Bool) → Apart o.channel ss → Apart (cond b (hear o o.channel (total_bytes n)).odometer o).channel ss
same_channel_on o ss n true a = rw (same_channel (hear_way o o.channel (total_bytes n))) a
same_channel_on o ss n false a = a

pub others_nothing : OthersNothing
unfolding hears Apart totals_only
others_nothing o [] apart = refl
others_nothing o (total n fate ∷ ss) apart = others_nothing (cond fate (hear o o.channel (total_bytes n)).odometer o) ss (same_channel_on o ss n fate apart)
others_nothing o (other x fate ∷ ss) apart = (other_goes o ss x fate apart.0).heard ∙ others_nothing o ss apart.1
