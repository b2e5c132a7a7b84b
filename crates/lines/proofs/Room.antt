-- A line that was written had room.
use Rattle.std.proofs.Common.{◌≡◌, ℕ, ◌≤◌, List, length, ltb, arith}
use Rattle.std.specs.Prelude.{Result, Ok, Err}
use borrow.Author.Tests.{ltb-false}
use Rattle.laws.proofs.Tests.{by_cases, clash}
use Rattle.refusals.specs.declared.Refusal.{Refusal}
use Rattle.refusals.specs.declared.Refusal.TheVariants.{ShortOutput}
use Rattle.lines.specs.Line.{written}

pub had_room : (text : List ℕ) (room : ℕ) {n : ℕ} → Ok n ≡ written text room → n ≤ room
unfolding written
had_room text room {n} =
    by_cases (λ (w : Result ℕ Refusal). Ok n ≡ w → n ≤ room) (ltb room (length text)) _ _ (λ q e. absurd (refused e))
    (λ q e. let k : n ≡ length text = cc in omega (arith, ltb-false room (length text) q))
  where
    refused : ◌≡◌ {A = Result ℕ Refusal} (Ok n) (Err ShortOutput) → ⊥
    refused e = clash (cc)
