-- A step of a sound reader: what it holds fits in the buffer, once inside it stays inside, and only a flag tells something.
use Prim.Native.Nat.{ℕ, ◌≤◌}
use mathlib.Core.Path.{◌≡◌, refl, sym, ◌∙◌}
use mathlib.Core.List.{List}
use mathlib.Core.Bool.{Bool, true, false, cond}
use native.Mathlib.Omega.{arith}
use borrow.Author.Tests.{ltb-true, le-ltb}
use lib.Dec.{ltb, eqb}
use lib.ListN.{length}
use Rattle.laws.proofs.Tests.{by_cases}
use Rattle.reader.specs.declared.Phase.{Phase}
use Rattle.reader.specs.declared.Phase.TheVariants.{Outside, Inside, Escaped, Long}
use Rattle.reader.specs.declared.Reader.{Reader}
use Rattle.reader.specs.declared.Stepped.{Stepped}
use Rattle.writer.specs.Message.{flag, escape}
use Rattle.reader.specs.Reader.{opened, storing, at_flag, at_byte, step_of}
use Rattle.reader.specs.Run.{quiet}
use Rattle.reader.proofs.Runs.{clash}

unfoldable pub is_outside : Phase → Bool
is_outside Outside = true
is_outside Inside = false
is_outside Escaped = false
is_outside Long = false

pub record Stays (room : ℕ) (phase : Phase) (s : Stepped) : Type 0 where
  pub fits : s.reader.held ≤ room
  pub inside : is_outside phase ≡ false → is_outside s.reader.phase ≡ false

-- of a byte that is no flag nothing is told
record Passes (room : ℕ) (phase : Phase) (s : Stepped) : Type 0 where
  stays : Stays room phase s
  silent : quiet s.event ≡ true

storing_passes : (phase : Phase) (held room : ℕ) → held ≤ room → Passes room phase (storing held room)
unfolding storing is_outside
storing_passes phase held room h =
    by_cases (Passes room phase) (ltb held room) _ _
    (λ q. let l = ltb-true held room q in record { stays = record { fits = omega arith; inside = λ i. refl }; silent = refl })
    (λ q. record { stays = record { fits = h; inside = λ i. refl }; silent = refl })

byte_passes : (phase : Phase) (held b room : ℕ) → held ≤ room → Passes room phase (at_byte phase held b room)
unfolding at_byte is_outside
byte_passes Outside held b room h = record { stays = record { fits = h; inside = λ i. i }; silent = refl }
byte_passes Long held b room h = record { stays = record { fits = h; inside = λ i. refl }; silent = refl }
byte_passes Escaped held b room h = storing_passes Escaped held room h
byte_passes Inside held b room h =
    by_cases (Passes room Inside) (eqb b escape) _ _
    (λ q. record { stays = record { fits = h; inside = λ i. refl }; silent = refl })
    (λ q. storing_passes Inside held room h)

module _ (r : Reader) (b : ℕ) (buf : List ℕ) (sound : r.held ≤ length buf) where
  -- a step of a sound reader
  abbrev stepped : Bool → Stepped
  stepped t = cond t record { reader = opened; event = at_flag r.phase r.held buf } (at_byte r.phase r.held b (length buf))

  step_is : step_of r b buf ≡ stepped (eqb b flag)
  unfolding step_of
  step_is = simp (le-ltb (length buf) r.held sound)

  pub step_stays : Stays (length buf) r.phase (step_of r b buf)
  unfolding is_outside
  step_stays = rw step_is (go (eqb b flag))
    where
      go : (t : Bool) → Stays (length buf) r.phase (stepped t)
      go true = record { fits = omega arith; inside = λ i. refl }
      go false = (byte_passes r.phase r.held b (length buf) sound).stays

  pub told_open : quiet (step_of r b buf).event ≡ false → (step_of r b buf).reader ≡ opened
  told_open = rw step_is (go (eqb b flag))
    where
      go : (t : Bool) → quiet (stepped t).event ≡ false → (stepped t).reader ≡ opened
      go true q = refl
      go false q = clash (sym q ∙ (byte_passes r.phase r.held b (length buf) sound).silent)
