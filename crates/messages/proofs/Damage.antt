-- Damage stays between its flags: right behind a flag a sound reader is open, whatever it read before.
use Prim.Native.Nat.{ℕ, ◌≤◌, ◌<◌}
use mathlib.Core.Path.{◌≡◌, refl, sym, ap, ◌∙◌}
use mathlib.Core.List.{List, [], ◌∷◌, ◌++◌, append_assoc, append-nil, flat_map, flatten}
use mathlib.Core.Bool.{Bool, true, false}
use native.Mathlib.Omega.{arith}
use borrow.Author.Tests.{ltb-true, ltb-false, lt-ltb}
use lib.Dec.{ltb}
use lib.ListN.{length}
use Rattle.reader.specs.declared.Reader.{Reader}
use Rattle.writer.specs.Message.{flag}
use Rattle.reader.specs.Reader.{outside, step_of, buffer_after}
use Rattle.messages.specs.Messages.{Said, pieces, judged, messages_of}
use Rattle.messages.specs.Tells.{Reading, Rule, read_by, tells, read_slices}
use Rattle.messages.specs.Damage.{chosen, Parts, parts_by, parts_of, ToldInParts, Alike, StaysBy, StaysInSlices, AnyMayCome}
use Rattle.messages.proofs.Split.{open_tells, reader_tells}
use Rattle.messages.proofs.Cut.{cut, slices_read}
use Rattle.messages.proofs.Held.{held_tells}
use Rattle.messages.proofs.Open.{read_length, open_behind}
use Rattle.messages.proofs.Parts.{behind_flag}
use Rattle.messages.proofs.Sent.{body_told}

-- ---- what a reader tells behind a flag

module _ (r : Reader) (a buf : List ℕ) (sound : r.held ≤ length buf) where
  abbrev x : Reading
  x = read_by step_of r (a ++ flag ∷ []) buf

  behind_tells : (bytes : List ℕ) → tells x.reader bytes x.buffer ≡ messages_of (length buf) (flag ∷ bytes)
  behind_tells bytes =
      rw (open_behind r a buf sound)
      (open_tells bytes x.buffer
      ∙ sym (behind_flag (length x.buffer) bytes)
      ∙ ap (λ (room : ℕ). messages_of room (flag ∷ bytes)) (read_length r (a ++ flag ∷ []) buf))

  sound_behind : x.reader.held ≤ length x.buffer
  sound_behind = rw (open_behind r a buf sound) (omega arith)

-- ---- the parts

-- from any sound state: m decides the second, and s the third
from_sound : (r : Reader) (p m s buf : List ℕ) → r.held ≤ length buf
    → (let of = parts_of (length buf) p m s in
    parts_by step_of r p m s buf ≡ record { before = tells r (p ++ flag ∷ []) buf; between = of.between; after = of.after })
from_sound r p m s buf sound =
    let x = read_by step_of r (p ++ flag ∷ []) buf in
    let third = behind_tells x.reader m x.buffer (sound_behind r p buf sound) s in
    rw (behind_tells r p buf sound (m ++ flag ∷ []), third, read_length r (p ++ flag ∷ []) buf)

pub told_in_parts : ToldInParts
told_in_parts p m s buf = from_sound outside p m s buf (omega arith) ∙ rw (reader_tells (p ++ flag ∷ []) buf)

abbrev together : Parts → List Said
together x = x.before ++ (x.between ++ x.after)

-- by any rule the three parts are all that is told
all_told : (step : Rule) (r : Reader) (p m s buf : List ℕ) → (read_by step r (chosen p m s) buf).said ≡ together (parts_by step r p m s buf)
all_told step r p m s buf =
    let first = p ++ flag ∷ [] in
    let second = m ++ flag ∷ [] in
    let x = read_by step r first buf in
    rw (sym (append_assoc p (flag ∷ []) (m ++ (flag ∷ s))), sym (append_assoc m (flag ∷ []) s), cut step r first (second ++ s) buf, cut step x.reader second s x.buffer)

-- ---- other bytes between

-- an unsound reader answers every byte with 23, and keeps its state and the buffer
module _ (r : Reader) (buf : List ℕ) (unsound : length buf < r.held) where
  step_still : (b : ℕ) → (step_of r b buf).reader ≡ r
  unfolding step_of
  step_still b = simp (lt-ltb (length buf) r.held unsound)

  buffer_still : (b : ℕ) → buffer_after r b buf ≡ buf
  unfolding buffer_after
  buffer_still b = simp (lt-ltb (length buf) r.held unsound)

  stands_still : (bytes : List ℕ) → ((read_by step_of r bytes buf).reader ≡ r) × ((read_by step_of r bytes buf).buffer ≡ buf)
  unfolding read_by
  stands_still [] = (refl, refl)
  stands_still (b ∷ bytes) = rw (step_still b, buffer_still b) (stands_still bytes)

from_unsound : (r : Reader) (p m s buf : List ℕ) → length buf < r.held → (parts_by step_of r p m s buf).after ≡ tells r s buf
from_unsound r p m s buf unsound =
    let x = stands_still r buf unsound (p ++ flag ∷ []) in
    let y = stands_still r buf unsound (m ++ flag ∷ []) in
    rw (x.0, x.1, y.0, y.1)

after_same : (r : Reader) (p m m' s buf buf' : List ℕ) → Alike r buf buf' → (parts_by step_of r p m' s buf').after ≡ (parts_by step_of r p m s buf).after
after_same r p m m' s buf buf' alike = go (ltb (length buf) r.held) refl
  where
    go : (t : Bool) → ltb (length buf) r.held ≡ t → (parts_by step_of r p m' s buf').after ≡ (parts_by step_of r p m s buf).after
    go true q =
        let l = ltb-true (length buf) r.held q in
        let l' : length buf' < r.held = rw alike.size l in
        from_unsound r p m' s buf' l' ∙ held_tells r s buf buf' alike.size alike.held ∙ sym (from_unsound r p m s buf l)
    go false q =
        let l = ltb-false (length buf) r.held q in
        let l' : r.held ≤ length buf' = rw alike.size l in
        let third : Parts → List Said = λ x. x.after in
        ap third (from_sound r p m' s buf' l') ∙ ap (λ (room : ℕ). messages_of room (flag ∷ s)) alike.size ∙ sym (ap third (from_sound r p m s buf l))

pub damage_stays : StaysBy step_of
damage_stays r p m m' s buf buf' alike =
    record { before = held_tells r (p ++ flag ∷ []) buf buf' alike.size alike.held; after = after_same r p m m' s buf buf' alike }

-- ---- in slices

slices_told : (r : Reader) (slices : List (List ℕ)) (p m s buf : List ℕ) → flatten slices ≡ chosen p m s
    → (read_slices r slices buf).said ≡ together (parts_by step_of r p m s buf)
slices_told r slices p m s buf e = rw (slices_read r slices buf, e) (all_told step_of r p m s buf)

pub stays_in_slices : StaysInSlices
stays_in_slices r slices slices' p m m' s buf buf' alike e e' =
    let same = damage_stays r p m m' s buf buf' alike in
    (slices_told r slices p m s buf e, slices_told r slices' p m' s buf' e' ∙ rw (same.before, same.after) refl)

-- ---- what comes from between

pub any_may_come : AnyMayCome
unfolding messages_of pieces flat_map
any_may_come room id payload p s = body_told room (id ∷ payload) [] ∙ append-nil (judged room (id ∷ payload) false)
