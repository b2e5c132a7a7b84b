-- Behind its first flag the reader is never outside again, and whatever it tells leaves it open and empty.
use Prim.Native.Nat.{ℕ, ◌≤◌}
use mathlib.Core.Path.{◌≡◌, refl, sym, ap, ◌∙◌}
use mathlib.Core.List.{List, [], ◌∷◌, ◌++◌, append_assoc}
use mathlib.Core.Bool.{false}
use native.Mathlib.Omega.{arith}
use borrow.Author.Tests.{le-ltb}
use lib.ListN.{length}
use Rattle.reader.specs.declared.Reader.{Reader}
use Rattle.writer.specs.Message.{flag}
use Rattle.reader.specs.Reader.{opened, step_of, buffer_after}
use Rattle.reader.proofs.Fits.{step_length}
use Rattle.reader.proofs.Runs.{clash}
use Rattle.reader.proofs.Steps.{is_outside, step_stays, told_open}
use Rattle.messages.specs.Tells.{read_by}
use Rattle.messages.specs.Open.{NeverOutside, ToldLeavesOpen}
use Rattle.messages.proofs.Cut.{cut}

pub told_leaves_open : ToldLeavesOpen
told_leaves_open r b buf sound q = told_open r b buf sound q

-- ---- over a stream

pub read_length : (r : Reader) (bytes buf : List ℕ) → length (read_by step_of r bytes buf).buffer ≡ length buf
unfolding read_by
read_length r [] buf = refl
read_length r (b ∷ bytes) buf = read_length (step_of r b buf).reader bytes (buffer_after r b buf) ∙ step_length r b buf

flag_opens : (r : Reader) (buf : List ℕ) → r.held ≤ length buf → (step_of r flag buf).reader ≡ opened
unfolding step_of
flag_opens r buf sound = simp (le-ltb (length buf) r.held sound)

-- right behind a flag, whatever came before it
pub open_behind : (r : Reader) (before buf : List ℕ) → r.held ≤ length buf → (read_by step_of r (before ++ flag ∷ []) buf).reader ≡ opened
unfolding read_by
open_behind r [] buf sound = flag_opens r buf sound
open_behind r (b ∷ before) buf sound =
    let s = step_stays r b buf sound in
    open_behind (step_of r b buf).reader before (buffer_after r b buf) (rw (step_length r b buf) s.fits)

since_inside : (r : Reader) (since buf : List ℕ) → r.held ≤ length buf → is_outside r.phase ≡ false → is_outside (read_by step_of r since buf).reader.phase ≡ false
unfolding read_by
since_inside r [] buf sound i = i
since_inside r (b ∷ since) buf sound i =
    let s = step_stays r b buf sound in
    since_inside (step_of r b buf).reader since (buffer_after r b buf) (rw (step_length r b buf) s.fits) (s.inside i)

inside_then : (r : Reader) (before since buf : List ℕ) → r.held ≤ length buf → is_outside (read_by step_of r (before ++ (flag ∷ since)) buf).reader.phase ≡ false
unfolding is_outside
inside_then r before since buf sound =
    let x = read_by step_of r (before ++ flag ∷ []) buf in
    rw (sym (append_assoc before (flag ∷ []) since), cut step_of r (before ++ flag ∷ []) since buf, open_behind r before buf sound)
    (since_inside opened since x.buffer (omega arith) refl)

pub never_outside : NeverOutside
unfolding is_outside
never_outside r before since buf sound e = clash (sym (inside_then r before since buf sound) ∙ ap is_outside e)
