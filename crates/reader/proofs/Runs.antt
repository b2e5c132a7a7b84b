-- The run over a slice, at a place of it: a byte that tells something, one that does not, and plain bytes at once.
use Prim.Native.Nat.{ℕ, suc, ◌+◌, ◌-◌, ◌≤◌, ◌<◌}
use mathlib.Core.Path.{◌≡◌, refl, sym, ap, ◌∙◌}
use mathlib.Core.List.{List, [], ◌∷◌, ◌++◌}
use mathlib.Core.Bool.{Bool, true, false, cond, ◌||◌}
use native.Mathlib.Numerals.{add-one}
use native.Mathlib.Nat.{add-zero}
use native.Mathlib.Omega.{arith}
use borrow.Author.Tests.{lt-ltb, le-ltb, ltb-false}
use lib.Dec.{eqb, ltb}
use lib.ListN.{length, set, take, drop, get_or, length-set, length-drop, drop_of_length-le, take-append-drop}
use lib.Seq.{sets, sets-eq, paste, drop-drop, length-take-le}
use Rattle.std.proofs.lemmas.List.Sums.{sum_by-cons}
use Rattle.laws.proofs.Tests.{by_cases}
use Rattle.reader.specs.declared.Phase.{Phase}
use Rattle.reader.specs.declared.Phase.TheVariants.{Inside}
use Rattle.reader.specs.declared.Reader.{Reader}
use Rattle.reader.specs.declared.Stepped.{Stepped}
use Rattle.writer.specs.Message.{flag, escape, special, escapes}
use Rattle.reader.specs.Reader.{goes_on, storing, stored, at_byte, buffer_at, step_of, buffer_after}
use Rattle.reader.specs.Run.{at_end, quiet, run, read_from}
use Rattle.laws.proofs.Lists.{next_cons}

module _ (r : Reader) (b : ℕ) (rest : List ℕ) (end : ℕ) (buf : List ℕ) where
  pub goes_on_lem : quiet (step_of r b buf).event ≡ true → run r (b ∷ rest) end buf ≡ run (step_of r b buf).reader rest end (buffer_after r b buf)
  unfolding run
  goes_on_lem q = simp q

  pub stops : quiet (step_of r b buf).event ≡ false
      → run r (b ∷ rest) end buf
      ≡ record {
        answer = record { reader = (step_of r b buf).reader; next = end - length rest; event = (step_of r b buf).event };
        buffer = buffer_after r b buf;
      }
  unfolding run
  stops q = simp q

-- from a place inside the input
pub inside_run : (r : Reader) (input : List ℕ) (at : ℕ) (buf : List ℕ) → at ≤ length input → read_from r input at buf ≡ run r (drop at input) (length input) buf
inside_run r input at buf h = simp (le-ltb (length input) at h)

-- the byte at a place was stepped over: t is the step, after the buffer behind it
module _ (input : List ℕ) (at : ℕ) (h : at < length input) (r : Reader) (buf after : List ℕ) (t : Stepped) (e : t ≡ step_of r (get_or input at 0) buf) (k : after ≡ buffer_after r (get_or input at 0) buf) where
  pub passed : quiet t.event ≡ true → read_from t.reader input (at + 1) after ≡ read_from r input at buf
  passed q =
      inside_run t.reader input (at + 1) after (omega arith)
      ∙ rw (next_cons input at h, e, k) (sym (goes_on_lem r (get_or input at 0) (drop (at + 1) input) (length input) buf (rw e at q)))
      ∙ sym (inside_run r input at buf (omega arith))

  pub told : quiet t.event ≡ false → record { answer = record { reader = t.reader; next = at + 1; event = t.event }; buffer = after } ≡ read_from r input at buf
  told q =
      let n : at + 1 ≡ length input - length (drop (at + 1) input) = simp length-drop (omega arith) in
      ap (λ (next : ℕ). record { answer = record { reader = t.reader; next = next; event = t.event }; buffer = after }) n
      ∙ rw (next_cons input at h, e, k) (sym (stops r (get_or input at 0) (drop (at + 1) input) (length input) buf (rw e at q)))
      ∙ sym (inside_run r input at buf (omega arith))

-- no byte is left: at the end of the input, or past it
at_least : (n at : ℕ) → n ≤ at → cond (ltb n at) at n ≡ at
at_least n at h = by_cases (λ (k : ℕ). k ≡ at) (ltb n at) _ _ (λ q. refl) (λ q. omega (arith, ltb-false n at q))

pub ended : (input : List ℕ) (at : ℕ) (r : Reader) (buf : List ℕ) → length input ≤ at
    → record { answer = record { reader = r; next = at; event = at_end r buf }; buffer = buf } ≡ read_from r input at buf
unfolding run
ended input at r buf h = rw (drop_of_length-le input {i = at} h, at_least (length input) at h)

-- the reader inside a message, with so many bytes held
abbrev pub within : ℕ → Reader
within held = record { phase = Inside; held = held }

inside_is : (r : Reader) → r.phase ≡ Inside → within r.held ≡ r
inside_is r e = ap (λ (phase : Phase). record { phase = phase; held = r.held }) (sym e)

pub clash : {A : Type 0} → ◌≡◌ {A = Bool} false true → A
clash e = let z : ◌≡◌ {A = ℕ} 0 1 = cc in absurd (omega arith)

pub or_false : (a b : Bool) → (a || b) ≡ false → (a ≡ false) × (b ≡ false)
or_false true b e = clash (sym e)
or_false false b e = (refl, e)

module _ (held b : ℕ) (buf : List ℕ) (plain : special b ≡ false) (room : held < length buf) where
  plain_step : step_of (within held) b buf ≡ goes_on Inside (held + 1)
  unfolding step_of at_byte storing
  plain_step =
      let o = or_false (eqb b flag) (eqb b escape) plain in
      simp (le-ltb (length buf) held (omega arith), o.0, o.1, lt-ltb held (length buf) room)

  plain_kept : buffer_after (within held) b buf ≡ set buf held b
  unfolding buffer_after buffer_at stored
  plain_kept =
      let o = or_false (eqb b flag) (eqb b escape) plain in
      simp (le-ltb (length buf) held (omega arith), o.0, o.1, lt-ltb held (length buf) room)

  pub plain_byte : (rest : List ℕ) (end : ℕ) → run (within held) (b ∷ rest) end buf ≡ run (within (held + 1)) rest end (set buf held b)
  plain_byte rest end = goes_on_lem (within held) b rest end buf (rw plain_step) ∙ rw (plain_step, plain_kept)

none : (t : Bool) (n : ℕ) → cond t 1 0 + n ≡ 0 → (t ≡ false) × (n ≡ 0)
none true n e = absurd (omega arith)
none false n e = (refl, omega arith)

-- plain bytes are stored one behind the other
plain_bytes : (xs rest : List ℕ) (end held : ℕ) (buf : List ℕ) → escapes xs ≡ 0 → held + length xs ≤ length buf
    → run (within held) (xs ++ rest) end buf ≡ run (within (held + length xs)) rest end (sets buf held xs)
plain_bytes [] rest end held buf e h = rw add-zero
plain_bytes (x ∷ xs) rest end held buf e h =
    let n = none (special x) (escapes xs) (sym (sum_by-cons (λ (b : ℕ). cond (special b) 1 0) x xs) ∙ e) in
    let k : held + 1 + length xs ≡ held + suc (length xs) = omega arith in
    plain_byte held x buf n.0 (omega arith) (xs ++ rest) end
    ∙ plain_bytes xs rest end (held + 1) (set buf held x) n.1 (rw length-set (omega arith))
    ∙ rw (k, add-one)

-- so many plain bytes of the input at once
skimmed : (input : List ℕ) (at held n : ℕ) (buf : List ℕ) → at + n ≤ length input → held + n ≤ length buf → escapes (take n (drop at input)) ≡ 0
    → read_from (within (held + n)) input (at + n) (paste buf held (drop at input) n) ≡ read_from (within held) input at buf
skimmed input at held n buf there room plain =
    let xs = take n (drop at input) in
    let l : length xs ≡ n = length-take-le n (drop at input) (simp length-drop (omega arith)) in
    let p : paste buf held (drop at input) n ≡ sets buf held xs = ap (λ (k : ℕ). take held buf ++ xs ++ drop (held + k) buf) (sym l) ∙ sym (sets-eq xs buf held (rw l room)) in
    inside_run (within (held + n)) input (at + n) (paste buf held (drop at input) n) there
    ∙ rw (p, ← drop-drop n at input)
    (ap (λ (k : ℕ). run (within (held + k)) (drop n (drop at input)) (length input) (sets buf held xs)) (sym l)
    ∙ sym (plain_bytes xs (drop n (drop at input)) (length input) held buf plain (rw l room))
    ∙ ap (λ (ys : List ℕ). run (within held) ys (length input) buf) (take-append-drop n (drop at input)))
    ∙ sym (inside_run (within held) input at buf (omega arith))

pub skimmed_by : (r : Reader) (input : List ℕ) (at n : ℕ) (buf : List ℕ) → r.phase ≡ Inside
    → at + n ≤ length input → r.held + n ≤ length buf → escapes (take n (drop at input)) ≡ 0
    → read_from record { phase = r.phase; held = r.held + n } input (at + n) (paste buf r.held (drop at input) n) ≡ read_from r input at buf
skimmed_by r input at n buf i there room plain =
    ap (λ (phase : Phase). read_from record { phase = phase; held = r.held + n } input (at + n) (paste buf r.held (drop at input) n)) i
    ∙ skimmed input at r.held n buf there room plain
    ∙ ap (λ (q : Reader). read_from q input at buf) (inside_is r i)
