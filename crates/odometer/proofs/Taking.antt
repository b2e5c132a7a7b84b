-- What becomes of a total: it is refused, or taken.
use Prim.Native.Nat.{ℕ, ◌+◌, ◌*◌, ◌^◌, ◌≤◌, ◌<◌}
use mathlib.Core.Bool.{Bool, true, false}
use mathlib.Core.Path.{◌≡◌, refl}
use lib.Dec.{leb}
use borrow.Author.Tests.{le-leb, lt-leb, leb-true, leb-false}
use Rattle.odometer.specs.declared.Odometer.{Odometer}
use Rattle.odometer.specs.declared.Heard.{Heard}
use Rattle.odometer.specs.declared.outcomes.Outcome.TheVariants.{Refused}
use Rattle.std.specs.Prelude.{Some}
use Rattle.refusals.specs.declared.Refusal.{Refusal}
use Rattle.refusals.specs.declared.Refusal.TheVariants.{TotalBehind, LongDistance}
use Rattle.odometer.specs.Odometer.{advance_of, accepted, fits, unchanged, on_total}

module _ (o : Odometer) (total : ℕ) where
  -- the total is taken, as so many turns more
  abbrev pub taken_as : ℕ → Heard
  taken_as turns =
      record {
        odometer = record { channel = o.channel; circumference = o.circumference; based = true; last = total; turns = o.turns + turns };
        outcome = accepted o.based turns;
        carried = Some total;
      }

  pub too_far : 2 ^ 31 ≤ advance_of o total → on_total o total ≡ unchanged o (Refused TotalBehind) (Some total)
  unfolding on_total
  too_far h = simp (le-leb (2 ^ 31) (advance_of o total) h)

  pub too_long : advance_of o total < 2 ^ 31 → fits ((o.turns + advance_of o total) * o.circumference) ≡ false → on_total o total ≡ unchanged o (Refused LongDistance) (Some total)
  unfolding on_total
  too_long h e = simp (lt-leb (2 ^ 31) (advance_of o total) h, e)

  pub taken : advance_of o total < 2 ^ 31 → fits ((o.turns + advance_of o total) * o.circumference) ≡ true → on_total o total ≡ taken_as (advance_of o total)
  unfolding on_total
  taken h e = simp (lt-leb (2 ^ 31) (advance_of o total) h, e)

  pub data Taking : Type 0 where
    refused : (refusal : Refusal) → on_total o total ≡ unchanged o (Refused refusal) (Some total) → Taking
    took : advance_of o total < 2 ^ 31 → fits ((o.turns + advance_of o total) * o.circumference) ≡ true → on_total o total ≡ taken_as (advance_of o total) → Taking

  pub taking : Taking
  taking = far (leb (2 ^ 31) (advance_of o total)) refl
    where
      long : (b : Bool) → advance_of o total < 2 ^ 31 → fits ((o.turns + advance_of o total) * o.circumference) ≡ b → Taking
      long true h e = took h e (taken h e)
      long false h e = refused LongDistance (too_long h e)

      far : (b : Bool) → leb (2 ^ 31) (advance_of o total) ≡ b → Taking
      far true e = refused TotalBehind (too_far (leb-true (2 ^ 31) (advance_of o total) e))
      far false e = long (fits ((o.turns + advance_of o total) * o.circumference)) (leb-false (2 ^ 31) (advance_of o total) e) refl
