-- The reader of document 01 before request 3: of a stream with single flags every second message is gone; where two or
-- more stand between messages, all come out as now.
use Rattle.std.specs.Prelude.{ℕ, ◌≡◌, List, [], ◌∷◌, cond, ltb, eqb, length, drop}
use Rattle.refusals.specs.declared.Refusal.TheVariants.{Unsound, FlagAfterEscape, LongMessage}
use Rattle.reader.specs.declared.Phase.{Phase}
use Rattle.reader.specs.declared.Phase.TheVariants.{Outside, Inside, Escaped, Long}
use Rattle.reader.specs.declared.Event.{Event}
use Rattle.reader.specs.declared.Event.TheVariants.{Refused}
use Rattle.reader.specs.declared.Reader.{Reader}
use Rattle.reader.specs.declared.Stepped.{Stepped}
use Rattle.writer.specs.Message.{flag}
use Rattle.reader.specs.Reader.{outside, goes_on, message_of, at_byte}
use Rattle.messages.specs.Messages.{Said, pieces, messages_of}
use Rattle.messages.specs.Tells.{read_by}

-- "A later flag closes it, and the reader is outside."
abbrev pub closed_before : Event → Stepped
closed_before event = record { reader = outside; event = event }

-- "A flag as the first byte inside keeps it open."
unfoldable pub flag_before : Phase → ℕ → List ℕ → Stepped
flag_before Outside held buf = goes_on Inside 0
flag_before Long held buf = closed_before (Refused LongMessage)
flag_before Escaped held buf = closed_before (Refused FlagAfterEscape)
flag_before Inside held buf = cond (eqb held 0) (goes_on Inside 0) (closed_before (message_of held buf))

-- another byte, and 23, as now
unfoldable pub step_before : Reader → ℕ → List ℕ → Stepped
step_before r b buf =
    cond (ltb (length buf) r.held) record { reader = r; event = Refused Unsound }
    (cond (eqb b flag) (flag_before r.phase r.held buf)
    (at_byte r.phase r.held b (length buf)))

-- a byte stands in each: no flag stands right behind another
unfoldable pub NoneEmpty : List (List ℕ) → Type 0
NoneEmpty [] = Unit {0}
NoneEmpty ([] ∷ ps) = ⊥
NoneEmpty ((b ∷ p) ∷ ps) = NoneEmpty ps

-- the first, the third, the fifth and so on
unfoldable pub every_second : List Said → List Said
every_second [] = []
every_second (x ∷ []) = x ∷ []
every_second (x ∷ y ∷ xs) = x ∷ every_second xs

abbrev pub LosesEverySecond : Type 0
LosesEverySecond =
    (stream buf : List ℕ) → NoneEmpty (drop 1 (pieces stream))
    → (read_by step_before outside stream buf).said ≡ every_second (messages_of (length buf) stream)

-- behind a piece with a byte in it stands an empty one, or none: two flags or more part the messages
unfoldable pub Doubled : List (List ℕ) → Type 0
Doubled [] = Unit {0}
Doubled ([] ∷ ps) = Doubled ps
Doubled ((b ∷ p) ∷ []) = Unit {0}
Doubled ((b ∷ p) ∷ [] ∷ ps) = Doubled ps
Doubled ((b ∷ p) ∷ (c ∷ q) ∷ ps) = ⊥

abbrev pub SameWhereDoubled : Type 0
SameWhereDoubled =
    (stream buf : List ℕ) → Doubled (drop 1 (pieces stream))
    → (read_by step_before outside stream buf).said ≡ messages_of (length buf) stream
