-- A reader in the midst of a piece: what a flag closes there, what another byte does, and what the split says of both.
use Prim.Native.Nat.{ℕ, suc, ◌+◌, ◌-◌, ◌<◌}
use mathlib.Core.Path.{◌≡◌, refl, ap, ◌∙◌}
use mathlib.Core.List.{List, [], ◌∷◌, ◌++◌, append-nil}
use mathlib.Core.Bool.{Bool, true, false, cond}
use native.Mathlib.Omega.{arith}
use borrow.Author.Tests.{lt-ltb, le-ltb, ne_eqb}
use lib.Dec.{ltb, eqb, eqb-suc-zero}
use lib.ListN.{length, length-append}
use lib.Seq.{append_snoc, take-append_seam, set-append_seam}
use Rattle.refusals.specs.declared.Refusal.TheVariants.{UnknownId, LongMessage}
use Rattle.reader.specs.declared.Phase.TheVariants.{Inside, Escaped, Long}
use Rattle.reader.specs.declared.Event.TheVariants as events
use Rattle.reader.specs.declared.Reader.{Reader}
use Rattle.writer.specs.Message.{flag, escape, turned}
use Rattle.reader.specs.Reader.{control, message_of, at_flag, storing, stored, at_byte, buffer_at, step_of, buffer_after}
use Rattle.messages.specs.Messages.{Said, transfer, refused, onto, meant, hangs, control_said, said, judged}
use Rattle.messages.specs.Tells.{heard}

-- ---- the reader

-- the bytes c that it holds stand at the front of the buffer: plain, or right after 0x7D; or there were too many
pub data Midst : Type 0 where
  plain_at : List ℕ → List ℕ → Midst
  escaped_at : List ℕ → List ℕ → Midst
  long_at : List ℕ → List ℕ → Midst

abbrev pub reader_at : Midst → Reader
reader_at (plain_at c tail) = record { phase = Inside; held = length c }
reader_at (escaped_at c tail) = record { phase = Escaped; held = length c }
reader_at (long_at c tail) = record { phase = Long; held = length c }

abbrev pub buffer_of : Midst → List ℕ
buffer_of (plain_at c tail) = c ++ tail
buffer_of (escaped_at c tail) = c ++ tail
buffer_of (long_at c tail) = c ++ tail

-- what the pieces say of which the first one began before; k: what follows, given what that one said
module _ (k : List Said → List (List ℕ) → List Said) (room : ℕ) where
  unfoldable pub begun : List ℕ → Bool → List (List ℕ) → List Said
  begun c after [] = []
  begun c after (p ∷ ps) = let x = judged room (c ++ meant after p) (hangs after p) in x ++ k x ps

  unfoldable pub begun_long : List (List ℕ) → List Said
  begun_long [] = []
  begun_long (p ∷ ps) = refused LongMessage ∷ k (refused LongMessage ∷ []) ps

  abbrev pub goes_by : Midst → List (List ℕ) → List Said
  goes_by (plain_at c tail) ps = begun c false ps
  goes_by (escaped_at c tail) ps = begun c true ps
  goes_by (long_at c tail) ps = begun_long ps

-- what a flag closes there
abbrev pub closes : ℕ → Midst → List Said
closes room (plain_at c tail) = judged room c false
closes room (escaped_at c tail) = judged room c true
closes room (long_at c tail) = refused LongMessage ∷ []

-- ---- a flag

control_said_lem : (id : ℕ) (payload tail : List ℕ) (later : List Said)
    → heard (control (suc (length payload)) (id ∷ payload ++ tail)) (id ∷ payload ++ tail) later ≡ control_said payload ∷ later
unfolding control control_said heard
control_said_lem id [] tail later = refl
control_said_lem id (a ∷ []) tail later = refl
control_said_lem id (low ∷ high ∷ []) tail later = refl
control_said_lem id (a ∷ b ∷ c ∷ bs) tail later =
    let n = suc (length (a ∷ b ∷ c ∷ bs)) in
    simp (ne_eqb n 1 (λ e. omega arith), ne_eqb n 3 (λ e. omega arith))

whole_said : (id : ℕ) (payload tail : List ℕ) (later : List Said)
    → heard (message_of (suc (length payload)) (id ∷ payload ++ tail)) (id ∷ payload ++ tail) later ≡ said (id ∷ payload) ++ later
unfolding message_of said heard
whole_said id payload tail later = go (ltb 1 id) (eqb id 1)
  where
    go : (t u : Bool)
        → heard (cond t (events.Refused UnknownId) (cond u (events.Message (suc (length payload) - 1)) (control (suc (length payload)) (id ∷ payload ++ tail)))) (id ∷ payload ++ tail) later
        ≡ cond t (refused UnknownId) (cond u (transfer payload) (control_said payload)) ∷ later
    go true u = refl
    go false true =
        let n : suc (length payload) - 1 ≡ length payload = omega arith in
        rw (n, take-append_seam payload tail)
    go false false = control_said_lem id payload tail later

within_buffer : (c tail : List ℕ) → ltb (length (c ++ tail)) (length c) ≡ false
within_buffer c tail = le-ltb (length (c ++ tail)) (length c) (rw (length-append c tail) (omega arith))

pub sound_at : (s : Midst) → ltb (length (buffer_of s)) (reader_at s).held ≡ false
sound_at (plain_at c tail) = within_buffer c tail
sound_at (escaped_at c tail) = within_buffer c tail
sound_at (long_at c tail) = within_buffer c tail

pub flag_told : (s : Midst) (later : List Said)
    → heard (at_flag (reader_at s).phase (reader_at s).held (buffer_of s)) (buffer_of s) later ≡ closes (length (buffer_of s)) s ++ later
unfolding at_flag judged heard said
flag_told (plain_at [] tail) later = simp (le-ltb (length tail) 0 (omega arith))
flag_told (plain_at (id ∷ payload) tail) later =
    simp (within_buffer (id ∷ payload) tail, eqb-suc-zero (length payload)) (whole_said id payload tail later)
flag_told (escaped_at c tail) later = simp (within_buffer c tail)
flag_told (long_at c tail) later = refl

pub flag_split : (k : List Said → List (List ℕ) → List Said) (room : ℕ) (s : Midst) (ps : List (List ℕ)) → goes_by k room s ([] ∷ ps) ≡ closes room s ++ k (closes room s) ps
unfolding begun begun_long meant hangs
flag_split k room (plain_at c tail) ps = rw append-nil
flag_split k room (escaped_at c tail) ps = rw append-nil
flag_split k room (long_at c tail) ps = refl

-- ---- another byte

-- x is stored behind c, where it fits
record Put (c tail : List ℕ) (x : ℕ) : Type 0 where
  next : Midst
  step : storing (length c) (length (c ++ tail)) ≡ record { reader = reader_at next; event = events.Nothing }
  kept : stored x (length c) (c ++ tail) ≡ buffer_of next
  room : length (buffer_of next) ≡ length (c ++ tail)
  split : (k : List Said → List (List ℕ) → List Said) (ps : List (List ℕ)) → begun k (length (c ++ tail)) (c ++ x ∷ []) false ps ≡ goes_by k (length (c ++ tail)) next ps

too_long : (k : List Said → List (List ℕ) → List Said) (room : ℕ) (c : List ℕ) (after : Bool) (ps : List (List ℕ)) → room < length c → begun k room c after ps ≡ begun_long k room ps
unfolding begun begun_long judged
too_long k room c after [] h = refl
too_long k room c after (p ∷ ps) h = simp (lt-ltb room (length (c ++ meant after p)) (rw (length-append c (meant after p)) (omega arith)))

puts : (c tail : List ℕ) (x : ℕ) → Put c tail x
unfolding storing stored
puts c [] x =
    let n : length (c ++ []) ≡ length c = ap length (append-nil c) in
    let l = le-ltb (length c) (length c) (omega arith) in
    let long : length (c ++ []) < length (c ++ x ∷ []) = rw (length-append c (x ∷ [])) (omega arith) in
    record {
      next = long_at c [];
      step = simp (append-nil c, l);
      kept = simp (append-nil c, l);
      room = refl;
      split = λ k ps. too_long k (length (c ++ [])) (c ++ x ∷ []) false ps long;
    }
puts c (y ∷ tail) x =
    let l = lt-ltb (length c) (length (c ++ y ∷ tail)) (rw (length-append c (y ∷ tail)) (omega arith)) in
    let n : length (c ++ x ∷ []) ≡ length c + 1 = length-append c (x ∷ []) in
    record {
      next = plain_at (c ++ x ∷ []) tail;
      step = simp (l, n);
      kept = simp (l, set-append_seam c y tail x, append_snoc c x tail);
      room = rw append_snoc (simp length-append);
      split = λ k ps. refl;
    }

pub record Steps (s : Midst) (b : ℕ) : Type 0 where
  pub next : Midst
  pub step : step_of (reader_at s) b (buffer_of s) ≡ record { reader = reader_at next; event = events.Nothing }
  pub kept : buffer_after (reader_at s) b (buffer_of s) ≡ buffer_of next
  pub room : length (buffer_of next) ≡ length (buffer_of s)
  pub split : (k : List Said → List (List ℕ) → List Said) (ps : List (List ℕ)) → goes_by k (length (buffer_of s)) s (onto b ps) ≡ goes_by k (length (buffer_of s)) next ps

module _ (k : List Said → List (List ℕ) → List Said) (room : ℕ) (b : ℕ) where
  onto_long : (ps : List (List ℕ)) → begun_long k room (onto b ps) ≡ begun_long k room ps
  unfolding onto begun_long
  onto_long [] = refl
  onto_long (p ∷ ps) = refl

  onto_turned : (c : List ℕ) (ps : List (List ℕ)) → begun k room c true (onto b ps) ≡ begun k room (c ++ turned b ∷ []) false ps
  unfolding onto begun meant hangs
  onto_turned c [] = refl
  onto_turned c (p ∷ ps) = rw append_snoc

  onto_escape : eqb b escape ≡ true → (c : List ℕ) (ps : List (List ℕ)) → begun k room c false (onto b ps) ≡ begun k room c true ps
  unfolding onto begun meant hangs
  onto_escape e c [] = refl
  onto_escape e c (p ∷ ps) = simp e

  onto_plain : eqb b escape ≡ false → (c : List ℕ) (ps : List (List ℕ)) → begun k room c false (onto b ps) ≡ begun k room (c ++ b ∷ []) false ps
  unfolding onto begun meant hangs
  onto_plain e c [] = refl
  onto_plain e c (p ∷ ps) = simp (e, append_snoc)

module _ (b : ℕ) (f : eqb b flag ≡ false) where
  plain_steps : (c tail : List ℕ) (t : Bool) → eqb b escape ≡ t → Steps (plain_at c tail) b
  unfolding step_of buffer_after at_byte buffer_at
  plain_steps c tail true e =
      let l = within_buffer c tail in
      record { next = escaped_at c tail; step = simp (l, f, e); kept = simp (l, f, e); room = refl; split = λ k. onto_escape k (length (c ++ tail)) b e c }
  plain_steps c tail false e =
      let l = within_buffer c tail in
      let p = puts c tail b in
      record {
        next = p.next;
        step = simp (l, f, e) p.step;
        kept = simp (l, f, e) p.kept;
        room = p.room;
        split = λ k ps. onto_plain k (length (c ++ tail)) b e c ps ∙ p.split k ps;
      }

  pub steps : (s : Midst) → Steps s b
  unfolding step_of buffer_after at_byte buffer_at
  steps (plain_at c tail) = plain_steps c tail (eqb b escape) refl
  steps (escaped_at c tail) =
      let l = within_buffer c tail in
      let p = puts c tail (turned b) in
      record {
        next = p.next;
        step = simp (l, f) p.step;
        kept = simp (l, f) p.kept;
        room = p.room;
        split = λ k ps. onto_turned k (length (c ++ tail)) b c ps ∙ p.split k ps;
      }
  steps (long_at c tail) =
      let l = within_buffer c tail in
      record { next = long_at c tail; step = simp (l, f); kept = simp (l, f); room = refl; split = λ k. onto_long k (length (c ++ tail)) b }

pub none_left : (k : List Said → List (List ℕ) → List Said) (room : ℕ) (s : Midst) → goes_by k room s [] ≡ []
unfolding begun begun_long
none_left k room (plain_at c tail) = refl
none_left k room (escaped_at c tail) = refl
none_left k room (long_at c tail) = refl
