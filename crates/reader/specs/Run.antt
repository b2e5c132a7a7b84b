-- The reader over the bytes of a slice: byte by byte, until a message closes or the bytes end.
use Rattle.std.specs.Prelude.{ℕ, ◌-◌, ◌≤◌, ◌≡◌, List, [], ◌∷◌, Bool, true, false, cond, ltb, length, drop}
use Rattle.reader.specs.declared.Event.{Event}
use Rattle.reader.specs.declared.Event.TheVariants.{Nothing, Message, Query, Notice, Refused}
use Rattle.reader.specs.declared.Reader.{Reader}
use Rattle.reader.specs.declared.slices.Ran.{Ran}
use Rattle.refusals.specs.declared.Refusal.TheVariants.{Unsound}
use Rattle.reader.specs.Reader.{unsound, step_of, buffer_after}

abbrev pub quiet : Event → Bool
quiet Nothing = true
quiet (Message length) = false
quiet Query = false
quiet (Notice room) = false
quiet (Refused refusal) = false

-- the answer, and the lent buffer after it
pub record Run : Type 0 where
  pub answer : Ran
  pub buffer : List ℕ

-- "otherwise 23", where no byte is left too
unfoldable pub at_end : Reader → List ℕ → Event
at_end r buf = cond (unsound r buf) (Refused Unsound) Nothing

-- the reader r on the last bytes of an input that ends at the place `end`
unfoldable pub run : Reader → List ℕ → ℕ → List ℕ → Run
run r [] end buf = record { answer = record { reader = r; next = end; event = at_end r buf }; buffer = buf }
run r (b ∷ rest) end buf =
    let s = step_of r b buf in
    let after = buffer_after r b buf in
    cond (quiet s.event) (run s.reader rest end after)
    record { answer = record { reader = s.reader; next = end - length rest; event = s.event }; buffer = after }

-- the next place where no byte is left: from a place past the end it is that place
abbrev pub end_from : List ℕ → ℕ → ℕ
end_from input from = cond (ltb (length input) from) from (length input)

-- from a place of the input on
abbrev pub read_from : Reader → List ℕ → ℕ → List ℕ → Run
read_from r input from buf = run r (drop from input) (end_from input from) buf

-- ---- what holds of every call

-- 23, and "Every answer below leaves state and buffers untouched"
pub record Refused23 (r : Reader) (buf : List ℕ) (x : Run) : Type 0 where
  pub event : x.answer.event ≡ Refused Unsound
  pub reader : x.answer.reader ≡ r
  pub buffer : x.buffer ≡ buf

abbrev pub UnsoundRefused : Type 0
UnsoundRefused =
    (r : Reader) (input : List ℕ) (from : ℕ) (buf : List ℕ) → unsound r buf ≡ true
    → Refused23 r buf (read_from r input from buf)

abbrev pub NeverBack : Type 0
NeverBack = (r : Reader) (input : List ℕ) (from : ℕ) (buf : List ℕ) → from ≤ (read_from r input from buf).answer.next
