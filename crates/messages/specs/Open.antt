-- "The reader is then never outside again, so 30 to 33 leave it open and empty." (document 02, request 3)
use Rattle.std.specs.Prelude.{ℕ, ◌≤◌, ◌≡◌, List, ◌∷◌, ◌++◌, false, length}
use Rattle.reader.specs.declared.Phase.TheVariants.{Outside}
use Rattle.reader.specs.declared.Reader.{Reader}
use Rattle.writer.specs.Message.{flag}
use Rattle.reader.specs.Reader.{opened, step_of}
use Rattle.reader.specs.Run.{quiet}
use Rattle.messages.specs.Tells.{read_by}

-- a sound reader that has had a flag, whatever came before it and since
abbrev pub NeverOutside : Type 0
NeverOutside =
    (r : Reader) (before since buf : List ℕ) → r.held ≤ length buf
    → (read_by step_of r (before ++ (flag ∷ since)) buf).reader.phase ≡ Outside → ⊥

-- whatever it tells, a message or a refusal
abbrev pub ToldLeavesOpen : Type 0
ToldLeavesOpen =
    (r : Reader) (b : ℕ) (buf : List ℕ) → r.held ≤ length buf → quiet (step_of r b buf).event ≡ false
    → (step_of r b buf).reader ≡ opened
