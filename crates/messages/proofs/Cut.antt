-- A stream may be cut anywhere: reading a and then b is reading a ++ b; and calls of `read` on slices read what their bytes read one by one.
use Prim.Native.Nat.{ℕ, zero, suc, ◌+◌, ◌-◌, ◌≤◌, ◌<◌}
use mathlib.Core.Path.{◌≡◌, refl, sym, ap, ◌∙◌}
use mathlib.Core.List.{List, [], ◌∷◌, ◌++◌, flatten}
use mathlib.Core.Bool.{Bool, true, false}
use native.Mathlib.Omega.{arith}
use borrow.Author.Tests.{ltb-true, ltb-false, lt-ltb, le-ltb}
use lib.Dec.{ltb}
use lib.ListN.{length, drop, length-drop, drop_of_length-le}
use lib.Seq.{drop-drop, drop-nil}
use Rattle.reader.specs.declared.Event.{Event}
use Rattle.reader.specs.declared.Event.TheVariants.{Nothing, Message, Query, Notice, Refused}
use Rattle.reader.specs.declared.Reader.{Reader}
use Rattle.reader.specs.Reader.{step_of, buffer_after}
use Rattle.reader.specs.Run.{quiet, Run, at_end, run, read_from}
use Rattle.messages.specs.Messages.{Said}
use Rattle.messages.specs.Tells.{Reading, heard, before, Rule, read_by, read_slice, behind, read_slices}
use Rattle.reader.proofs.Runs.{goes_on_lem, stops, inside_run}
use Rattle.reader.proofs.Onward.{past_one, onward}
use Rattle.reader.proofs.Unsound.{quiet_ends}
use Rattle.listener.proofs.HearListen.{nothing}

heard_append : (event : Event) (buf : List ℕ) (xs ys : List Said) → heard event buf (xs ++ ys) ≡ heard event buf xs ++ ys
unfolding heard
heard_append Nothing buf xs ys = refl
heard_append (Message n) buf xs ys = refl
heard_append Query buf xs ys = refl
heard_append (Notice room) buf xs ys = refl
heard_append (Refused refusal) buf xs ys = refl

-- by any rule
pub cut : (step : Rule) (r : Reader) (a b buf : List ℕ)
    → (let x = read_by step r a buf in read_by step r (a ++ b) buf ≡ behind x (read_by step x.reader b x.buffer))
unfolding read_by
cut step r [] b buf = refl
cut step r (c ∷ a) b buf =
    let s = step r c buf in
    let after = buffer_after r c buf in
    let x = read_by step s.reader a after in
    let y = read_by step x.reader b x.buffer in
    ap (before s.event after) (cut step s.reader a b after)
    ∙ ap (λ (told : List Said). record { said = told; reader = y.reader; buffer = y.buffer }) (heard_append s.event after x.said y.said)

-- ---- a slice

-- a call of `read`, and then the rest
abbrev pub with_rest : Run → List ℕ → Reading
with_rest x rest = before x.answer.event x.buffer (read_by step_of x.answer.reader rest x.buffer)

-- the bytes behind those that a run took, at the end of an input that ends at the place `end`
abbrev untaken : List ℕ → ℕ → Run → List ℕ
untaken bytes end x = drop (x.answer.next - (end - length bytes)) bytes

module _ (r : Reader) (b : ℕ) (rest : List ℕ) (end : ℕ) (buf : List ℕ) (h : suc (length rest) ≤ end) where
  abbrev kept : List ℕ
  kept = buffer_after r b buf

  abbrev onward_run : Run
  onward_run = run (step_of r b buf).reader rest end kept

  abbrev Goal : Type 0
  Goal = read_by step_of r (b ∷ rest) buf ≡ with_rest (run r (b ∷ rest) end buf) (untaken (b ∷ rest) end (run r (b ∷ rest) end buf))

  run_on : read_by step_of (step_of r b buf).reader rest kept ≡ with_rest onward_run (untaken rest end onward_run) → quiet (step_of r b buf).event ≡ true → Goal
  unfolding read_by heard
  run_on ih q =
      let past = past_one (step_of r b buf).reader rest end kept (omega arith) in
      let n : onward_run.answer.next - (end - suc (length rest)) ≡ suc (onward_run.answer.next - (end - length rest)) = omega arith in
      rw (nothing (step_of r b buf).event q, goes_on_lem r b rest end buf q, n) ih

  run_told : quiet (step_of r b buf).event ≡ false → Goal
  unfolding read_by
  run_told q =
      let n : end - length rest - (end - suc (length rest)) ≡ 1 = omega arith in
      rw (stops r b rest end buf q, n)

  run_byte : (quiet (step_of r b buf).event ≡ true → read_by step_of (step_of r b buf).reader rest kept ≡ with_rest onward_run (untaken rest end onward_run))
      → (t : Bool) → quiet (step_of r b buf).event ≡ t → Goal
  run_byte ih true q = run_on (ih q) q
  run_byte ih false q = run_told q

-- where a byte is left, by any reader; where none is, by one that tells nothing then
run_reads : (r : Reader) (bytes : List ℕ) (end : ℕ) (buf : List ℕ) → length bytes ≤ end → (length bytes ≡ 0 → at_end r buf ≡ Nothing)
    → read_by step_of r bytes buf ≡ with_rest (run r bytes end buf) (untaken bytes end (run r bytes end buf))
unfolding run heard read_by
run_reads r [] end buf h e = rw (e refl, drop-nil)
run_reads r (b ∷ rest) end buf h e =
    run_byte r b rest end buf h
    (λ q. run_reads (step_of r b buf).reader rest end (buffer_after r b buf) (omega arith) (λ z. quiet_ends r b buf q))
    (quiet (step_of r b buf).event) refl

-- a call of `read` from a place inside the input tells the first event of the bytes from there, and leaves the rest to be read from its next place
pub call_reads : (r : Reader) (input : List ℕ) (from : ℕ) (buf : List ℕ) → from < length input
    → read_by step_of r (drop from input) buf ≡ with_rest (read_from r input from buf) (drop (read_from r input from buf).answer.next input)
call_reads r input from buf h =
    let x = read_from r input from buf in
    let y = run r (drop from input) (length input) buf in
    let same : x ≡ y = inside_run r input from buf (omega arith) in
    let l = length-drop from input in
    let past = past_one r (drop from input) (length input) buf (omega arith) in
    let n : from + (y.answer.next - (length input - length (drop from input))) ≡ y.answer.next = omega arith in
    rw same
    (run_reads r (drop from input) (length input) buf (omega arith) (λ z. absurd (omega arith))
    ∙ ap (with_rest y) (drop-drop (y.answer.next - (length input - length (drop from input))) from input ∙ ap (λ (k : ℕ). drop k input) n))

-- ---- slice by slice

module _ (input : List ℕ) where
  at_end_lem : (n : ℕ) (r : Reader) (from : ℕ) (buf : List ℕ) → length input ≤ from → read_slice n r input from buf ≡ read_by step_of r (drop from input) buf
  unfolding read_slice read_by
  at_end_lem zero r from buf h = rw (drop_of_length-le input {i = from} h)
  at_end_lem (suc n) r from buf h = rw (drop_of_length-le input {i = from} h) (simp (le-ltb from (length input) h))

  one_call : (n : ℕ) (r : Reader) (from : ℕ) (buf : List ℕ) → from < length input
      → (let x = read_from r input from buf in
      read_slice n x.answer.reader input x.answer.next x.buffer ≡ read_by step_of x.answer.reader (drop x.answer.next input) x.buffer)
      → read_slice (suc n) r input from buf ≡ read_by step_of r (drop from input) buf
  unfolding read_slice
  one_call n r from buf h ih =
      let x = read_from r input from buf in
      simp (lt-ltb from (length input) h) (ap (before x.answer.event x.buffer) ih ∙ sym (call_reads r input from buf h))

  slice : (n : ℕ) (r : Reader) (from : ℕ) (buf : List ℕ) → length input - from ≤ n → read_slice n r input from buf ≡ read_by step_of r (drop from input) buf
  slice zero r from buf h = at_end_lem zero r from buf (omega arith)
  slice (suc n) r from buf h = go (ltb from (length input)) refl (slice n)
    where
      go : (t : Bool) → ltb from (length input) ≡ t
          → ((r' : Reader) (next : ℕ) (buf' : List ℕ) → length input - next ≤ n → read_slice n r' input next buf' ≡ read_by step_of r' (drop next input) buf')
          → read_slice (suc n) r input from buf ≡ read_by step_of r (drop from input) buf
      go true q ih =
          let l = ltb-true from (length input) q in
          let x = read_from r input from buf in
          let on = onward r input from buf l in
          one_call n r from buf l (ih x.answer.reader x.answer.next x.buffer (omega arith))
      go false q ih = at_end_lem (suc n) r from buf (ltb-false from (length input) q)

-- however a stream is cut into slices, the slice reader makes of it what the byte reader does
pub slices_read : (r : Reader) (slices : List (List ℕ)) (buf : List ℕ) → read_slices r slices buf ≡ read_by step_of r (flatten slices) buf
unfolding read_slices flatten read_by
slices_read r [] buf = refl
slices_read r (s ∷ slices) buf =
    let e = slice s (length s) r 0 buf (omega arith) in
    let x = read_by step_of r s buf in
    rw e (ap (behind x) (slices_read x.reader slices x.buffer) ∙ sym (cut step_of r s (flatten slices) buf))
