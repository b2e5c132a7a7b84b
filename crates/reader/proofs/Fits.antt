-- A message that is told lies in the lent buffer, whole.
use Prim.{Unit, tt}
use Prim.Native.Nat.{ℕ, ◌-◌, ◌≤◌, ◌<◌}
use mathlib.Core.Path.{◌≡◌, refl, ◌∙◌}
use mathlib.Core.List.{List, [], ◌∷◌}
use native.Mathlib.Omega.{arith}
use borrow.Author.Tests.{ltb-false, eqb-false}
use lib.Dec.{ltb, eqb}
use lib.ListN.{length, get_or, length-set}
use Rattle.laws.proofs.Tests.{by_cases}
use Rattle.reader.specs.declared.Phase.{Phase}
use Rattle.reader.specs.declared.Phase.TheVariants.{Outside, Inside, Escaped, Long}
use Rattle.reader.specs.declared.Event.{Event}
use Rattle.reader.specs.declared.Event.TheVariants.{Nothing, Message, Query, Notice, Refused}
use Rattle.reader.specs.declared.Reader.{Reader}
use Rattle.reader.specs.declared.Stepped.{Stepped}
use Rattle.writer.specs.Message.{flag, escape, turned}
use Rattle.reader.specs.Reader.{control, message_of, at_flag, storing, stored, at_byte, buffer_at, unsound, step_of, buffer_after}
use Rattle.reader.specs.Run.{at_end, quiet, Run, run}

-- of a message of so many payload bytes the ID lies in the buffer too
abbrev pub Fits : ℕ → Event → Type 0
Fits room Nothing = Unit {0}
Fits room (Message length) = length < room
Fits room Query = Unit {0}
Fits room (Notice available) = Unit {0}
Fits room (Refused refusal) = Unit {0}

pub fitting : (room : ℕ) {event : Event} → Fits room event → {n : ℕ} → event ≡ Message n → n < room
fitting room f e = rw e at f

abbrev StepFits : ℕ → Stepped → Type 0
StepFits room s = Fits room s.event

control_fits : (held : ℕ) (buf : List ℕ) (room : ℕ) → Fits room (control held buf)
unfolding control
control_fits held buf room =
    by_cases (Fits room) (eqb held 1) _ _ (λ q. tt)
    (λ q. by_cases (Fits room) (eqb held 3) _ _ (λ q. tt) (λ q. tt))

message_fits : (held : ℕ) (buf : List ℕ) → (held ≡ 0 → ⊥) → held ≤ length buf → Fits (length buf) (message_of held buf)
unfolding message_of
message_fits held buf some h =
    let k : held - 1 < length buf = omega (arith, some) in
    by_cases (Fits (length buf)) (ltb 1 (get_or buf 0 0)) _ _ (λ q. tt)
    (λ q. by_cases (Fits (length buf)) (eqb (get_or buf 0 0) 1) _ _ (λ q. k) (λ q. control_fits held buf _))

flag_fits : (phase : Phase) (held : ℕ) (buf : List ℕ) → held ≤ length buf → Fits (length buf) (at_flag phase held buf)
unfolding at_flag
flag_fits Outside held buf h = tt
flag_fits Long held buf h = tt
flag_fits Escaped held buf h = tt
flag_fits Inside held buf h =
    by_cases (Fits (length buf)) (eqb held 0) _ _ (λ q. tt) (λ q. message_fits held buf (eqb-false held 0 q) h)

storing_fits : (held room : ℕ) → StepFits room (storing held room)
unfolding storing
storing_fits held room = by_cases (StepFits room) (ltb held room) _ _ (λ q. tt) (λ q. tt)

byte_fits : (phase : Phase) (held b room : ℕ) → StepFits room (at_byte phase held b room)
unfolding at_byte
byte_fits Outside held b room = tt
byte_fits Long held b room = tt
byte_fits Escaped held b room = storing_fits held room
byte_fits Inside held b room = by_cases (StepFits room) (eqb b escape) _ _ (λ q. tt) (λ q. storing_fits held room)

pub step_fits : (r : Reader) (b : ℕ) (buf : List ℕ) → Fits (length buf) (step_of r b buf).event
unfolding step_of
step_fits r b buf =
    by_cases (StepFits (length buf)) (ltb (length buf) r.held) _ _ (λ q. tt)
    (λ q. by_cases (StepFits (length buf)) (eqb b flag) _ _ (λ p. flag_fits r.phase r.held buf (ltb-false (length buf) r.held q)) (λ p. byte_fits r.phase r.held b (length buf)))

-- the buffer keeps its length
abbrev Long-as : List ℕ → List ℕ → Type 0
Long-as buf l = length l ≡ length buf

stored_length : (b held : ℕ) (buf : List ℕ) → Long-as buf (stored b held buf)
unfolding stored
stored_length b held buf = by_cases (Long-as buf) (ltb held (length buf)) _ _ (λ q. length-set buf held b) (λ q. refl)

byte_length : (phase : Phase) (held b : ℕ) (buf : List ℕ) → Long-as buf (buffer_at phase held b buf)
unfolding buffer_at
byte_length Outside held b buf = refl
byte_length Long held b buf = refl
byte_length Escaped held b buf = stored_length (turned b) held buf
byte_length Inside held b buf = by_cases (Long-as buf) (eqb b escape) _ _ (λ q. refl) (λ q. stored_length b held buf)

pub step_length : (r : Reader) (b : ℕ) (buf : List ℕ) → length (buffer_after r b buf) ≡ length buf
unfolding buffer_after
step_length r b buf =
    by_cases (Long-as buf) (ltb (length buf) r.held) _ _ (λ q. refl)
    (λ q. by_cases (Long-as buf) (eqb b flag) _ _ (λ q. refl) (λ q. byte_length r.phase r.held b buf))

abbrev RunFits : ℕ → Run → Type 0
RunFits room x = Fits room x.answer.event

end_fits : (r : Reader) (buf : List ℕ) (room : ℕ) → Fits room (at_end r buf)
unfolding at_end
end_fits r buf room = by_cases (Fits room) (unsound r buf) _ _ (λ q. tt) (λ q. tt)

pub run_fits : (r : Reader) (bytes : List ℕ) (end : ℕ) (buf : List ℕ) → Fits (length buf) (run r bytes end buf).answer.event
unfolding run
run_fits r [] end buf = end_fits r buf (length buf)
run_fits r (b ∷ rest) end buf =
    by_cases (RunFits (length buf)) (quiet (step_of r b buf).event) _ _
    (λ q. rw (step_length r b buf) at (run_fits (step_of r b buf).reader rest end (buffer_after r b buf)))
    (λ q. step_fits r b buf)

pub run_length : (r : Reader) (bytes : List ℕ) (end : ℕ) (buf : List ℕ) → length (run r bytes end buf).buffer ≡ length buf
unfolding run
run_length r [] end buf = refl
run_length r (b ∷ rest) end buf =
    by_cases (λ (x : Run). length x.buffer ≡ length buf) (quiet (step_of r b buf).event) _ _
    (λ q. run_length (step_of r b buf).reader rest end (buffer_after r b buf) ∙ step_length r b buf)
    (λ q. step_length r b buf)
