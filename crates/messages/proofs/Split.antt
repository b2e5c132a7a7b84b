-- The reader tells of a stream exactly the messages that its flags split it into.
use Prim.Native.Nat.{ℕ, ◌≤◌}
use mathlib.Core.Path.{◌≡◌, refl, sym, ap, ◌∙◌}
use mathlib.Core.List.{List, [], ◌∷◌, ◌++◌, flat_map}
use mathlib.Core.Bool.{Bool, true, false, cond}
use native.Mathlib.Omega.{arith}
use borrow.Author.Tests.{le-ltb}
use lib.Dec.{eqb}
use lib.ListN.{length, drop}
use Rattle.writer.specs.Message.{flag}
use Rattle.reader.specs.Reader.{outside, opened, at_flag, at_byte, buffer_at, step_of, buffer_after}
use Rattle.messages.specs.Messages.{Said, onto, pieces, said_of, messages_of}
use Rattle.messages.specs.Tells.{heard, read_by, tells}
use Rattle.reader.proofs.WriteRead.{without}
use Rattle.messages.proofs.Midst.{Midst, plain_at, reader_at, buffer_of, begun, goes_by, closes, sound_at, flag_told, flag_split, steps, none_left}

-- ---- the rest of a stream

-- every flag opens: all that follows is judged too
abbrev pub all : ℕ → List Said → List (List ℕ) → List Said
all room x ps = flat_map (said_of room) ps

from_empty : (room : ℕ) (ps : List (List ℕ)) → begun (all room) room [] false ps ≡ flat_map (said_of room) ps
unfolding begun flat_map
from_empty room [] = refl
from_empty room (p ∷ ps) = refl

abbrev Goes : List ℕ → Midst → Type 0
Goes bs s = tells (reader_at s) bs (buffer_of s) ≡ goes_by (all (length (buffer_of s))) (length (buffer_of s)) s (pieces bs)

module _ (b : ℕ) (bs : List ℕ) (ih : (s : Midst) → Goes bs s) (s : Midst) where
  abbrev room : ℕ
  room = length (buffer_of s)

  at_flag_lem : eqb b flag ≡ true → tells (reader_at s) (b ∷ bs) (buffer_of s) ≡ goes_by (all room) room s ([] ∷ pieces bs)
  unfolding read_by step_of buffer_after
  at_flag_lem e =
      simp (sound_at s, e)
      (flag_told s (tells opened bs (buffer_of s))
      ∙ ap (λ (later : List Said). closes room s ++ later) (ih (plain_at [] (buffer_of s)) ∙ from_empty room (pieces bs))
      ∙ sym (flag_split (all room) room s (pieces bs)))

  at_byte_lem : eqb b flag ≡ false → tells (reader_at s) (b ∷ bs) (buffer_of s) ≡ goes_by (all room) room s (onto b (pieces bs))
  unfolding read_by heard
  at_byte_lem f =
      let n = steps b f s in
      rw (n.step, n.kept)
      (ih n.next ∙ ap (λ (k : ℕ). goes_by (all k) k n.next (pieces bs)) n.room ∙ sym (n.split (all room) (pieces bs)))

  either : (t : Bool) → eqb b flag ≡ t → tells (reader_at s) (b ∷ bs) (buffer_of s) ≡ goes_by (all room) room s (cond t ([] ∷ pieces bs) (onto b (pieces bs)))
  either true e = at_flag_lem e
  either false e = at_byte_lem e

pub midst : (bs : List ℕ) (s : Midst) → Goes bs s
unfolding read_by pieces
midst [] s = sym (none_left (all (length (buffer_of s))) (length (buffer_of s)) s)
midst (b ∷ bs) s = either b bs (midst bs) s (eqb b flag) refl

-- behind a flag
pub open_tells : (bytes buf : List ℕ) → tells opened bytes buf ≡ flat_map (said_of (length buf)) (pieces bytes)
open_tells bytes buf = midst bytes (plain_at [] buf) ∙ from_empty (length buf) (pieces bytes)

-- ---- the whole stream

pub onto_ignored : (b : ℕ) (ps : List (List ℕ)) → drop 1 (onto b ps) ≡ drop 1 ps
unfolding onto
onto_ignored b [] = refl
onto_ignored b (p ∷ ps) = refl

module _ (held : ℕ) (buf : List ℕ) (h : held ≤ length buf) where
  outside_byte : (b : ℕ) (bs : List ℕ) → tells (without held) bs buf ≡ flat_map (said_of (length buf)) (drop 1 (pieces bs)) → (t : Bool) → eqb b flag ≡ t
      → tells (without held) (b ∷ bs) buf ≡ flat_map (said_of (length buf)) (drop 1 (cond t ([] ∷ pieces bs) (onto b (pieces bs))))
  unfolding read_by step_of buffer_after at_flag at_byte buffer_at heard
  outside_byte b bs ih true e = simp (le-ltb (length buf) held h, e) (open_tells bs buf)
  outside_byte b bs ih false e = simp (le-ltb (length buf) held h, e, onto_ignored b (pieces bs)) ih

  -- from any state outside, whatever the buffer holds
  pub without_tells : (stream : List ℕ) → tells (without held) stream buf ≡ messages_of (length buf) stream
  unfolding read_by messages_of pieces flat_map
  without_tells [] = refl
  without_tells (b ∷ bs) = outside_byte b bs (without_tells bs) (eqb b flag) refl

pub reader_tells : (stream buf : List ℕ) → tells outside stream buf ≡ messages_of (length buf) stream
reader_tells stream buf = without_tells 0 buf (omega arith) stream
