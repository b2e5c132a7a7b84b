use Rattle.std.proofs.Common.{◌≡◌, ℕ, ◌-◌, ◌≤◌, Bool, ltb, List, length}
use Rattle.reader.specs.Reader.{outside}
use Rattle.whole.specs.Streams.{Reading, read_turn}
use Rattle.whole.proofs.Turns.{Goes}
use Rattle.whole.proofs.streams.read_all.Given as goal

module _ (input : List ℕ) where
  abbrev pub more : Reading → Bool
  more s = ltb s.at (length input)

  abbrev pub left : Reading → ℕ
  left s = length input - s.at

  abbrev pub at_start : List ℕ → List ℕ → Reading
  at_start m t = record { reader = outside; at = 0; message = m; tally = t }

  abbrev pub OnTheWay : List ℕ → List ℕ → Reading → Type 0
  OnTheWay m t s = Goes more (read_turn input) left (length input) (at_start m t) s

abbrev pub invariant-loop-at : goal.invariant-loop-at
invariant-loop-at l =
    (9 ≤ length l.tally)
    × (length l.message ≡ length l.initial.message)
    × (length l.tally ≡ length l.initial.tally)
    × OnTheWay l.input l.initial.message l.initial.tally record { reader = l.reader; at = l.at; message = l.message; tally = l.tally }

abbrev pub decreases-loop-at : goal.decreases-loop-at
decreases-loop-at l = length l.input - l.at
