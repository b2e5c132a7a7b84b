-- What the writer writes, the reader reads back: ID and payload unaltered, whatever bytes stand before the first flag, and
-- with one flag or more between two messages.
use Prim.Native.Nat.{ℕ, zero, suc, ◌+◌, ◌-◌, ◌≤◌, ◌<◌}
use mathlib.Core.Path.{◌≡◌, refl, sym, ap, ◌∙◌}
use mathlib.Core.List.{List, [], ◌∷◌, ◌++◌, append_assoc}
use mathlib.Core.Bool.{Bool, true, false, cond, ◌||◌}
use native.Mathlib.Numerals.{add-one}
use native.Mathlib.Nat.{add-zero}
use native.Mathlib.Omega.{arith}
use borrow.Author.Tests.{lt-ltb, le-ltb, ne_eqb, eqb-true}
use lib.Dec.{ltb, eqb}
use lib.ListN.{length, set, drop, get_or, replicate, length-set, length-append, length-drop}
use lib.Seq.{sets, sets-eq, length-sets}
use Rattle.laws.proofs.Tests.{by_cases}
use Rattle.reader.specs.declared.Phase.TheVariants.{Outside, Escaped}
use Rattle.reader.specs.declared.Event.{Event}
use Rattle.reader.specs.declared.Reader.{Reader}
use Rattle.writer.specs.Message.{flag, escape, special, turned, sent, escaped}
use Rattle.reader.specs.Reader.{opened, control, message_of, at_flag, storing, stored, at_byte, buffer_at, step_of, buffer_after}
use Rattle.reader.specs.Run.{quiet, Run, run, read_from}
use Rattle.reader.proofs.Runs.{clash, within, goes_on_lem, stops, inside_run, plain_byte}

-- a byte that was escaped is no flag, and turned back it is itself
module _ (b : ℕ) where
  either : special b ≡ true → (P : ℕ → Type 0) → P flag → P escape → P b
  either e P f g = go (eqb b flag) refl (eqb b escape) refl e
    where
      go : (s : Bool) → eqb b flag ≡ s → (t : Bool) → eqb b escape ≡ t → (s || t) ≡ true → P b
      go true p t q e = rw (eqb-true b flag p) f
      go false p true q e = rw (eqb-true b escape q) g
      go false p false q e = clash e

  pub no_flag : special b ≡ true → eqb (turned b) flag ≡ false
  no_flag e = either e (λ (x : ℕ). eqb (turned x) flag ≡ false) refl refl

  pub turned_back : special b ≡ true → turned (turned b) ≡ b
  turned_back e = either e (λ (x : ℕ). turned (turned x) ≡ x) refl refl

abbrev after_escape : ℕ → Reader
after_escape held = record { phase = Escaped; held = held }

module _ (held : ℕ) (buf : List ℕ) (room : held < length buf) (rest : List ℕ) (end : ℕ) where
  escape_read : run (within held) (escape ∷ rest) end buf ≡ run (after_escape held) rest end buf
  unfolding step_of buffer_after at_byte buffer_at
  escape_read =
      let h = le-ltb (length buf) held (omega arith) in
      goes_on_lem (within held) escape rest end buf (simp h) ∙ simp h

  turned_read : (b : ℕ) → special b ≡ true → run (after_escape held) (turned b ∷ rest) end buf ≡ run (within (held + 1)) rest end (set buf held b)
  unfolding step_of buffer_after at_byte buffer_at storing stored
  turned_read b e =
      let h = le-ltb (length buf) held (omega arith) in
      let l = lt-ltb held (length buf) room in
      goes_on_lem (after_escape held) (turned b) rest end buf (simp (h, no_flag b e, l)) ∙ simp (h, no_flag b e, l, turned_back b e)

-- inside a message, a byte as it is sent
sent_read : (b held : ℕ) (buf : List ℕ) (rest : List ℕ) (end : ℕ) → held < length buf
    → run (within held) (sent b ++ rest) end buf ≡ run (within (held + 1)) rest end (set buf held b)
unfolding sent
sent_read b held buf rest end room = go (special b) refl
  where
    go : (t : Bool) → special b ≡ t → run (within held) (cond t (escape ∷ turned b ∷ []) (b ∷ []) ++ rest) end buf ≡ run (within (held + 1)) rest end (set buf held b)
    go true e = escape_read held buf room (turned b ∷ rest) end ∙ turned_read held buf room rest end b e
    go false e = plain_byte held b buf e room rest end

escaped_read : (xs : List ℕ) (held : ℕ) (buf : List ℕ) (rest : List ℕ) (end : ℕ) → held + length xs ≤ length buf
    → run (within held) (escaped xs ++ rest) end buf ≡ run (within (held + length xs)) rest end (sets buf held xs)
unfolding escaped
escaped_read [] held buf rest end h = rw add-zero
escaped_read (x ∷ xs) held buf rest end h =
    let k : held + 1 + length xs ≡ held + suc (length xs) = omega arith in
    ap (λ (ys : List ℕ). run (within held) ys end buf) (append_assoc (sent x) (escaped xs) rest)
    ∙ sent_read x held buf (escaped xs ++ rest) end (omega arith)
    ∙ escaped_read xs (held + 1) (set buf held x) rest end (rw length-set (omega arith))
    ∙ rw (k, add-one)

abbrev pub loud : Event → Type 0
loud event = quiet event ≡ false

pub message_loud : (held : ℕ) (buf : List ℕ) → loud (message_of held buf)
unfolding message_of control
message_loud held buf =
    by_cases loud (ltb 1 (get_or buf 0 0)) _ _ (λ q. refl)
    (λ q. by_cases loud (eqb (get_or buf 0 0) 1) _ _ (λ q. refl)
    (λ q. by_cases loud (eqb held 1) _ _ (λ q. refl)
    (λ q. by_cases loud (eqb held 3) _ _ (λ q. refl) (λ q. refl))))

-- the closing flag
close_read : (held : ℕ) (buf rest : List ℕ) (end : ℕ) → 1 ≤ held → held ≤ length buf
    → run (within held) (flag ∷ rest) end buf ≡ record { answer = record { reader = opened; next = end - length rest; event = message_of held buf }; buffer = buf }
unfolding step_of buffer_after at_flag
close_read held buf rest end some h =
    let l = le-ltb (length buf) held h in
    let n = ne_eqb held 0 (λ e. omega arith) in
    stops (within held) flag rest end buf (simp (l, n) (message_loud held buf)) ∙ simp (l, n)

-- outside, with whatever held
abbrev pub without : ℕ → Reader
without held = record { phase = Outside; held = held }

open_read : (held : ℕ) (buf rest : List ℕ) (end : ℕ) → held ≤ length buf → run (without held) (flag ∷ rest) end buf ≡ run opened rest end buf
unfolding step_of buffer_after at_flag
open_read held buf rest end h = let l = le-ltb (length buf) held h in goes_on_lem (without held) flag rest end buf (simp l) ∙ simp l

stay_read : (buf rest : List ℕ) (end : ℕ) → run opened (flag ∷ rest) end buf ≡ run opened rest end buf
unfolding step_of buffer_after at_flag
stay_read buf rest end = let l = le-ltb (length buf) 0 (omega arith) in goes_on_lem opened flag rest end buf (simp l) ∙ simp l

-- bytes of which none is a flag
pub data NoFlag : List ℕ → Type 0 where
  none : NoFlag []
  more : {b : ℕ} {bs : List ℕ} → (b ≡ flag → ⊥) → NoFlag bs → NoFlag (b ∷ bs)

noise_read : {noise : List ℕ} → NoFlag noise → (held : ℕ) (buf rest : List ℕ) (end : ℕ) → held ≤ length buf
    → run (without held) (noise ++ rest) end buf ≡ run (without held) rest end buf
unfolding step_of buffer_after at_byte buffer_at
noise_read none held buf rest end h = refl
noise_read (more {b} {bs} f n) held buf rest end h =
    let l = le-ltb (length buf) held h in
    let e = ne_eqb b flag f in
    goes_on_lem (without held) b (bs ++ rest) end buf (simp (l, e)) ∙ simp (l, e) (noise_read n held buf rest end h)

stays_read : (k : ℕ) (buf rest : List ℕ) (end : ℕ) → run opened (replicate k flag ++ rest) end buf ≡ run opened rest end buf
stays_read zero buf rest end = refl
stays_read (suc k) buf rest end = stay_read buf (replicate k flag ++ rest) end ∙ stays_read k buf rest end

-- the bytes that open a message to a reader: none where it is open, which every flag leaves it; outside the first flag, and whatever stands before it
pub data Opens (room : ℕ) : Reader → List ℕ → Type 0 where
  open_already : Opens room opened []
  first_flag : {held : ℕ} {noise : List ℕ} → held ≤ room → NoFlag noise → Opens room (without held) (noise ++ flag ∷ [])

opens_read : {r : Reader} {lead : List ℕ} (buf : List ℕ) → Opens (length buf) r lead → (rest : List ℕ) (end : ℕ) → run r (lead ++ rest) end buf ≡ run opened rest end buf
opens_read buf open_already rest end = refl
opens_read buf (first_flag {held} {noise} h n) rest end =
    ap (λ (xs : List ℕ). run (without held) xs end buf) (append_assoc noise (flag ∷ []) rest) ∙ noise_read n held buf (flag ∷ rest) end h ∙ open_read held buf rest end h

-- the buffer with ID and payload at its front, and the reading that closes there
abbrev pub kept : ℕ → List ℕ → List ℕ → List ℕ
kept id payload buf = id ∷ payload ++ drop (1 + length payload) buf

abbrev pub back : ℕ → List ℕ → List ℕ → ℕ → List ℕ → Run
back id payload rest end buf =
    record {
      answer = record { reader = opened; next = end - length rest; event = message_of (1 + length payload) (kept id payload buf) };
      buffer = kept id payload buf;
    }

message_read : (id : ℕ) (payload rest : List ℕ) (end : ℕ) (buf : List ℕ) → 1 + length payload ≤ length buf
    → run opened (escaped (id ∷ payload) ++ (flag ∷ rest)) end buf ≡ back id payload rest end buf
message_read id payload rest end buf room =
    let n : 0 + length (id ∷ payload) ≡ 1 + length payload = omega arith in
    let s : sets buf 0 (id ∷ payload) ≡ kept id payload buf = sets-eq (id ∷ payload) buf 0 (rw n room) ∙ rw n in
    let k : length (kept id payload buf) ≡ length buf = sym (ap length s) ∙ length-sets buf 0 (id ∷ payload) in
    let l : 1 + length payload ≤ length (kept id payload buf) = omega arith in
    escaped_read (id ∷ payload) 0 buf (flag ∷ rest) end (rw n room)
    ∙ rw (n, s) (close_read (1 + length payload) (kept id payload buf) rest end (omega arith) l)

-- the message that stands on the input from a place on, to such a reader: what opens it, any number of further flags, ID and payload, and one flag
pub record Stands (room : ℕ) (r : Reader) (input : List ℕ) (from id : ℕ) (payload : List ℕ) : Type 0 where
  pub lead : List ℕ
  pub opens : Opens room r lead
  pub flags : ℕ
  pub rest : List ℕ
  pub is : drop from input ≡ lead ++ (replicate flags flag ++ (escaped (id ∷ payload) ++ (flag ∷ rest)))

-- from any state outside, or behind a flag, and with a buffer that holds ID and payload
pub read_back : (r : Reader) (input : List ℕ) (from id : ℕ) (payload buf : List ℕ) (s : Stands (length buf) r input from id payload) → 1 + length payload ≤ length buf
    → read_from r input from buf ≡ back id payload s.rest (length input) buf
read_back r input from id payload buf s room =
    let e = length input in
    let tail = escaped (id ∷ payload) ++ (flag ∷ s.rest) in
    let front = replicate s.flags flag ++ tail in
    let there = ap length s.is ∙ length-append s.lead front in
    let more = length-append (replicate s.flags flag) tail in
    let last = length-append (escaped (id ∷ payload)) (flag ∷ s.rest) in
    let left = length-drop from input in
    inside_run r input from buf (omega arith)
    ∙ rw s.is (opens_read buf s.opens (replicate s.flags flag ++ tail) e
    ∙ stays_read s.flags buf tail e
    ∙ message_read id payload s.rest e buf room)
