-- What a reader tells depends on the message buffer by its size, and by what the reader holds of it: by no other byte.
use Prim.Native.Nat.{ℕ, ◌≤◌}
use mathlib.Core.Path.{◌≡◌, refl, sym, ap, ◌∙◌}
use mathlib.Core.List.{List, ◌++◌, flat_map}
use mathlib.Core.Bool.{Bool, true, false}
use native.Mathlib.Omega.{arith}
use borrow.Author.Tests.{ltb-true, ltb-false}
use lib.Dec.{ltb}
use lib.ListN.{length, take, drop, take-append-drop}
use lib.Seq.{length-take-le, take_all}
use Rattle.reader.specs.declared.Phase.{Phase}
use Rattle.reader.specs.declared.Phase.TheVariants.{Outside, Inside, Escaped, Long}
use Rattle.reader.specs.declared.Reader.{Reader}
use Rattle.messages.specs.Messages.{Said, pieces, said_of, messages_of}
use Rattle.messages.specs.Tells.{tells}
use Rattle.messages.proofs.Midst.{plain_at, escaped_at, long_at, begun, begun_long}
use Rattle.messages.proofs.Split.{all, midst, without_tells}

-- what is told of pieces from a phase on, with the bytes c held
told_from : Phase → ℕ → List ℕ → List (List ℕ) → List Said
told_from Outside room c ps = flat_map (said_of room) (drop 1 ps)
told_from Inside room c ps = begun (all room) room c false ps
told_from Escaped room c ps = begun (all room) room c true ps
told_from Long room c ps = begun_long (all room) room ps

module _ (held : ℕ) (bytes buf : List ℕ) (sound : held ≤ length buf) where
  abbrev c : List ℕ
  c = take held buf

  abbrev tail : List ℕ
  tail = drop held buf

  parted : c ++ tail ≡ buf
  parted = take-append-drop held buf

  size : length c ≡ held
  size = length-take-le held buf sound

  from_phase : (phase : Phase) → tells record { phase = phase; held = held } bytes buf ≡ told_from phase (length buf) c (pieces bytes)
  unfolding told_from messages_of
  from_phase Outside = without_tells held buf sound bytes
  from_phase Inside = rw (parted, size) at (midst bytes (plain_at c tail))
  from_phase Escaped = rw (parted, size) at (midst bytes (escaped_at c tail))
  from_phase Long = rw (parted, size) at (midst bytes (long_at c tail))

-- a buffer of the same size with the same bytes where the reader holds some: it tells the same
pub held_tells : (r : Reader) (bytes buf buf' : List ℕ) → length buf' ≡ length buf → take r.held buf' ≡ take r.held buf → tells r bytes buf' ≡ tells r bytes buf
held_tells r bytes buf buf' size same = go (ltb (length buf) r.held) refl
  where
    go : (t : Bool) → ltb (length buf) r.held ≡ t → tells r bytes buf' ≡ tells r bytes buf
    go true q =
        let l = ltb-true (length buf) r.held q in
        let e : buf' ≡ buf = sym (take_all r.held buf' (omega arith)) ∙ same ∙ take_all r.held buf (omega arith) in
        ap (λ (xs : List ℕ). tells r bytes xs) e
    go false q =
        let l = ltb-false (length buf) r.held q in
        let l' : r.held ≤ length buf' = omega arith in
        rw (from_phase r.held bytes buf' l' r.phase, from_phase r.held bytes buf l r.phase, size, same) refl
