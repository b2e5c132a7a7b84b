-- A reader that has input takes some of it, so a loop over the input ends.
use Prim.Native.Nat.{ℕ, ◌-◌, ◌≤◌, ◌<◌}
use mathlib.Core.List.{List, [], ◌∷◌}
use native.Mathlib.Omega.{arith}
use lib.ListN.{length, drop, length-drop}
use Rattle.laws.proofs.Tests.{by_cases}
use Rattle.reader.specs.declared.Reader.{Reader}
use Rattle.reader.specs.Reader.{step_of, buffer_after}
use Rattle.reader.specs.Run.{Run, quiet, run, read_from}
use Rattle.reader.proofs.Runs.{inside_run}

-- the next place lies past the first of the bytes, or at the end
pub past_one : (r : Reader) (bytes : List ℕ) (end : ℕ) (buf : List ℕ) → length bytes ≤ end → end - (length bytes - 1) ≤ (run r bytes end buf).answer.next
unfolding run
past_one r [] end buf h = omega arith
past_one r (b ∷ rest) end buf h =
    by_cases (λ (x : Run). end - (length (b ∷ rest) - 1) ≤ x.answer.next) (quiet (step_of r b buf).event) _ _
    (λ q. omega (arith, past_one (step_of r b buf).reader rest end (buffer_after r b buf) (omega arith)))
    (λ q. omega arith)

pub onward : (r : Reader) (input : List ℕ) (from : ℕ) (buf : List ℕ) → from < length input → from < (read_from r input from buf).answer.next
onward r input from buf h =
    let l = length-drop from input in
    rw (inside_run r input from buf (omega arith)) (omega (arith, past_one r (drop from input) (length input) buf (omega arith)))
