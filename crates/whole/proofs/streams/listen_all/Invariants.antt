use Rattle.std.proofs.Common.{◌≡◌, ℕ, ◌-◌, ◌≤◌, Bool, ltb, List, length}
use Rattle.verdict.specs.declared.Settings.{Settings}
use Rattle.receiver.specs.State.{sound_receiver, fresh_receiver}
use Rattle.reader.specs.Reader.{outside}
use Rattle.whole.specs.Streams.{Listening, listen_turn}
use Rattle.whole.proofs.Turns.{Goes}
use Rattle.whole.proofs.streams.listen_all.Given as goal

module _ (input : List ℕ) where
  abbrev pub more : Listening → Bool
  more s = ltb s.at (length input)

  abbrev pub left : Listening → ℕ
  left s = length input - s.at

  abbrev pub at_start : Settings → List ℕ → List ℕ → List ℕ → Listening
  at_start settings m d t =
      record { listener = record { reader = outside; receiver = fresh_receiver settings }; at = 0; message = m; cargo = d; tally = t }

  abbrev pub OnTheWay : Listening → Listening → Type 0
  OnTheWay s₀ s = Goes more (listen_turn input) left (length input) s₀ s

abbrev pub invariant-loop-at : goal.invariant-loop-at
invariant-loop-at l =
    (9 ≤ length l.tally)
    × (length l.message ≡ length l.initial.message)
    × (length l.cargo ≡ length l.initial.cargo)
    × (length l.tally ≡ length l.initial.tally)
    × (l.sound ≡ sound_receiver record { settings = l.settings; channels = l.channels; underway = l.underway })
    × OnTheWay l.input (at_start l.input l.settings l.initial.message l.initial.cargo l.initial.tally)
    record { listener = record { reader = l.reader; receiver = record { settings = l.settings; channels = l.channels; underway = l.underway } }; at = l.at; message = l.message; cargo = l.cargo; tally = l.tally }

abbrev pub decreases-loop-at : goal.decreases-loop-at
decreases-loop-at l = length l.input - l.at
