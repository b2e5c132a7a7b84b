-- One call: the settings stay, the distance does not fall, and what is refused or passed over changes nothing.
use Prim.Native.Nat.{ℕ, ◌+◌, ◌*◌, ◌^◌, ◌≤◌, ◌<◌}
use native.Mathlib.Nat.{mul-le-mul_right}
use native.Mathlib.Omega.{arith}
use mathlib.Core.Bool.{Bool, true, false, not}
use mathlib.Core.List.{List}
use mathlib.Core.Path.{◌≡◌, refl}
use lib.Dec.{eqb}
use borrow.Author.Tests.{ne_eqb}
use Rattle.laws.proofs.Tests.{by_cases, clash}
use Rattle.verdict.specs.declared.answers.Answer.{Answer}
use Rattle.verdict.specs.declared.answers.Kind.{Kind}
use Rattle.verdict.specs.declared.answers.Kind.TheVariants.{Delivered, Part, Null, Refused as Refused-kind}
use Rattle.odometer.specs.declared.Odometer.{Odometer}
use Rattle.odometer.specs.declared.Heard.{Heard}
use Rattle.odometer.specs.declared.outcomes.Outcome.{Outcome}
use Rattle.odometer.specs.declared.outcomes.Outcome.TheVariants.{Passed, Base, Advanced, Refused}
use Rattle.std.specs.Prelude.{Option, None, Some}
use Rattle.refusals.specs.declared.Refusal.TheVariants.{Circumference, NoTotal}
use Rattle.odometer.specs.Total.{total_in}
use Rattle.odometer.specs.Odometer.{in_range, advance_of, millimetres, fits, accepted, unchanged, on_total, on_carried, hear, hear_kind, hear_answer, pass_over}
use Rattle.odometer.proofs.Taking.{taken_as, Taking, refused, took, taking}

-- ---- the ways of a call

-- passed over, and refused
abbrev pub quiet : Outcome → Bool
quiet Passed = true
quiet Base = false
quiet (Advanced turns) = false
quiet (Refused refusal) = true

-- a call leaves all as it was, or takes a total
pub data Way (o : Odometer) : Heard → Type 0 where
  kept : (outcome : Outcome) (carried : Option ℕ) → quiet outcome ≡ true → Way o (unchanged o outcome carried)
  takes : (total : ℕ) → advance_of o total < 2 ^ 31 → fits ((o.turns + advance_of o total) * o.circumference) ≡ true → Way o (taken_as o total (advance_of o total))

module _ (o : Odometer) where
  goes : {h h' : Heard} → h ≡ h' → Way o h' → Way o h
  goes e w = rw e w

  total_way : (total : ℕ) → Way o (on_total o total)
  total_way total = go (taking o total)
    where
      go : Taking o total → Way o (on_total o total)
      go (refused refusal e) = goes e (kept (Refused refusal) _ refl)
      go (took h f e) = goes e (takes total h f)

  carried_way : (c : Option ℕ) → Way o (on_carried o c)
  unfolding on_carried
  carried_way None = kept (Refused NoTotal) _ refl
  carried_way (Some total) = total_way total

  pub hear_way : (channel : ℕ) (cargo : List ℕ) → Way o (hear o channel cargo)
  unfolding hear
  hear_way channel cargo =
      by_cases (Way o) (not (in_range o.circumference)) _ _ (λ q. kept (Refused Circumference) _ refl)
      (λ q. by_cases (Way o) (not (eqb channel o.channel)) _ _ (λ r. kept Passed _ refl) (λ r. carried_way (total_in cargo)))

  pass_way : Way o (pass_over o)
  unfolding pass_over
  pass_way = by_cases (Way o) (in_range o.circumference) _ _ (λ q. kept Passed _ refl) (λ q. kept (Refused Circumference) _ refl)

  kind_way : (k : Kind) (buffer : List ℕ) → Way o (hear_kind o k buffer)
  kind_way (Delivered channel len) buffer = hear_way channel _
  kind_way Part buffer = pass_way
  kind_way Null buffer = pass_way
  kind_way Refused-kind buffer = pass_way

  pub answer_way : (answer : Answer) (buffer : List ℕ) → Way o (hear_answer o answer buffer)
  answer_way answer buffer = kind_way answer.kind buffer

-- ---- what every way keeps

-- "state unchanged", "passed over unchanged"
pub quiet_changes_nothing : {o : Odometer} {h : Heard} → Way o h → quiet h.outcome ≡ true → h.odometer ≡ o
quiet_changes_nothing (kept outcome carried q) e = refl
quiet_changes_nothing {o} (takes total h f) e = accepts o.based e
  where
    accepts : {A : Type 0} (b : Bool) → quiet (accepted b (advance_of o total)) ≡ true → A
    accepts true q = absurd (clash cc)
    accepts false q = absurd (clash cc)

pub same_circumference : {o : Odometer} {h : Heard} → Way o h → h.odometer.circumference ≡ o.circumference
same_circumference (kept outcome carried q) = refl
same_circumference (takes total h f) = refl

pub same_channel : {o : Odometer} {h : Heard} → Way o h → h.odometer.channel ≡ o.channel
same_channel (kept outcome carried q) = refl
same_channel (takes total h f) = refl

-- "It never falls"
pub no_less : {o : Odometer} {h : Heard} → Way o h → millimetres o ≤ millimetres h.odometer
no_less (kept outcome carried q) = omega arith
no_less {o} (takes total h f) = let t : o.turns ≤ o.turns + advance_of o total = omega arith in mul-le-mul_right o.circumference t

pub still_fits : {o : Odometer} {h : Heard} → Way o h → fits (millimetres o) ≡ true → fits (millimetres h.odometer) ≡ true
still_fits (kept outcome carried q) e = e
still_fits (takes total h f) e = f

-- ---- other channels

pub passed_over : (o : Odometer) (channel : ℕ) (cargo : List ℕ) → (channel ≡ o.channel → ⊥) → (hear o channel cargo).odometer ≡ o
unfolding hear
passed_over o channel cargo n =
    by_cases (λ (h : Heard). h.odometer ≡ o) (not (in_range o.circumference)) _ _ (λ q. refl)
    (λ q. simp (ne_eqb channel o.channel n))
