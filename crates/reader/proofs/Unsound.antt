-- An unsound reader answers 23 at every call and changes nothing; a sound one stays sound; the place never goes back.
use Prim.Native.Nat.{ℕ, ◌≤◌}
use mathlib.Core.Path.{◌≡◌, refl, sym}
use mathlib.Core.List.{List, [], ◌∷◌}
use mathlib.Core.Bool.{Bool, true, false}
use native.Mathlib.Omega.{arith}
use borrow.Author.Tests.{ltb-true, ltb-false, le-ltb}
use lib.Dec.{ltb}
use lib.ListN.{length, drop, length-drop}
use Rattle.reader.specs.declared.Event.TheVariants.{Nothing}
use Rattle.reader.specs.declared.Reader.{Reader}
use Rattle.reader.specs.Reader.{unsound, step_of, buffer_after}
use Rattle.reader.specs.Run.{quiet, at_end, Refused23, run, end_from, read_from, UnsoundRefused, NeverBack}
use Rattle.reader.proofs.Fits.{step_length}
use Rattle.reader.proofs.Onward.{past_one}
use Rattle.reader.proofs.Runs.{clash, inside_run, ended}
use Rattle.reader.proofs.Steps.{step_stays}

module _ (r : Reader) (buf : List ℕ) (u : unsound r buf ≡ true) where
  refused_run : (bytes : List ℕ) (end : ℕ) → Refused23 r buf (run r bytes end buf)
  unfolding run at_end step_of buffer_after
  refused_run [] end = record { event = simp u; reader = refl; buffer = refl }
  refused_run (b ∷ rest) end = simp u record { event = refl; reader = refl; buffer = refl }

pub unsound_refused : UnsoundRefused
unsound_refused r input from buf u = refused_run r buf u (drop from input) (end_from input from)

-- behind a byte that told nothing the reader is sound, so at the end of the bytes nothing is told either
module _ (r : Reader) (b : ℕ) (buf : List ℕ) where
  sound_then : (t : Bool) → unsound r buf ≡ t → quiet (step_of r b buf).event ≡ true → r.held ≤ length buf
  unfolding step_of
  sound_then true u q = clash (simp u at q)
  sound_then false u q = ltb-false (length buf) r.held u

  pub quiet_ends : quiet (step_of r b buf).event ≡ true → at_end (step_of r b buf).reader (buffer_after r b buf) ≡ Nothing
  unfolding at_end
  quiet_ends q =
      let s = step_stays r b buf (sound_then (unsound r buf) refl q) in
      simp (step_length r b buf, le-ltb (length buf) (step_of r b buf).reader.held s.fits)

pub never_back : NeverBack
never_back r input from buf = go (ltb (length input) from) refl
  where
    go : (t : Bool) → ltb (length input) from ≡ t → from ≤ (read_from r input from buf).answer.next
    go true q = let h = ltb-true (length input) from q in rw (sym (ended input from r buf (omega arith))) (omega arith)
    go false q =
        let h = ltb-false (length input) from q in
        let l = length-drop from input in
        rw (inside_run r input from buf h) (omega (arith, past_one r (drop from input) (length input) buf (omega arith)))
