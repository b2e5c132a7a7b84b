-- The reader of before request 3 loses every second message of a stream with single flags, and none where two stand between.
use Prim.Native.Nat.{ℕ}
use mathlib.Core.Path.{◌≡◌, refl, sym, ap, ◌∙◌}
use mathlib.Core.List.{List, [], ◌∷◌, ◌++◌, append-nil, flat_map}
use mathlib.Core.Bool.{Bool, true, false, cond}
use native.Mathlib.Omega.{arith}
use borrow.Author.Tests.{le-ltb}
use lib.Dec.{eqb}
use lib.ListN.{length, drop}
use Rattle.reader.specs.declared.Event.{Event}
use Rattle.reader.specs.declared.Event.TheVariants as events
use Rattle.reader.specs.declared.Phase.{Phase}
use Rattle.reader.specs.declared.Phase.TheVariants as phases
use Rattle.reader.specs.declared.Reader.{Reader}
use Rattle.writer.specs.Message.{flag}
use Rattle.reader.specs.Reader.{outside, opened, goes_on, message_of, at_flag, at_byte, buffer_at, step_of, buffer_after}
use Rattle.reader.specs.Run.{quiet}
use Rattle.reader.proofs.WriteRead.{message_loud}
use Rattle.messages.specs.Messages.{Said, onto, pieces, meant, hangs, said, judged, said_of, messages_of}
use Rattle.messages.specs.Tells.{heard, read_by}
use Rattle.messages.specs.Before.{closed_before, flag_before, step_before, NoneEmpty, every_second, LosesEverySecond, Doubled, SameWhereDoubled}
use Rattle.messages.proofs.One.{one_message}
use Rattle.messages.proofs.Midst.{Midst, plain_at, reader_at, buffer_of, begun, goes_by, closes, sound_at, flag_told, flag_split, steps, none_left}

-- ---- the rule of before, beside ours

-- what a flag closes is the same, but a message leaves it outside
flag_before_lem : (phase : Phase) (held : ℕ) (buf : List ℕ)
    → flag_before phase held buf ≡ record { reader = cond (quiet (at_flag phase held buf)) opened outside; event = at_flag phase held buf }
unfolding at_flag flag_before
flag_before_lem phases.Outside held buf = refl
flag_before_lem phases.Long held buf = refl
flag_before_lem phases.Escaped held buf = refl
flag_before_lem phases.Inside held buf = go (eqb held 0)
  where
    go : (t : Bool)
        → cond t (goes_on phases.Inside 0) (closed_before (message_of held buf))
        ≡ (let event = cond t events.Nothing (message_of held buf) in record { reader = cond (quiet event) opened outside; event = event })
    go true = refl
    go false = rw (message_loud held buf)

byte_before : (r : Reader) (b : ℕ) (buf : List ℕ) → eqb b flag ≡ false → step_before r b buf ≡ step_of r b buf
unfolding step_before step_of
byte_before r b buf f = simp f

-- ---- what it tells of pieces

none_in : List Said → Bool
none_in [] = true
none_in (x ∷ xs) = false

-- a message leaves it outside, and then it ignores a piece
older : ℕ → Bool → List (List ℕ) → List Said
older room inside [] = []
older room true (p ∷ ps) = let x = said_of room p in x ++ older room (none_in x) ps
older room false (p ∷ ps) = older room true ps

abbrev next : ℕ → List Said → List (List ℕ) → List Said
next room x ps = older room (none_in x) ps

from_empty : (room : ℕ) (ps : List (List ℕ)) → begun (next room) room [] false ps ≡ older room true ps
unfolding begun older
from_empty room [] = refl
from_empty room (p ∷ ps) = refl

none_heard : (event : Event) (buf : List ℕ) → none_in (heard event buf []) ≡ quiet event
unfolding none_in heard
none_heard events.Nothing buf = refl
none_heard (events.Message n) buf = refl
none_heard events.Query buf = refl
none_heard (events.Notice room) buf = refl
none_heard (events.Refused refusal) buf = refl

abbrev told : Reader → List ℕ → List ℕ → List Said
told r bytes buf = (read_by step_before r bytes buf).said

abbrev Inside : List ℕ → Midst → Type 0
Inside bs s = told (reader_at s) bs (buffer_of s) ≡ goes_by (next (length (buffer_of s))) (length (buffer_of s)) s (pieces bs)

abbrev Without : List ℕ → List ℕ → Type 0
Without bs buf = told outside bs buf ≡ older (length buf) false (pieces bs)

onto_older : (b room : ℕ) (ps : List (List ℕ)) → older room false (onto b ps) ≡ older room false ps
unfolding onto older
onto_older b room [] = refl
onto_older b room (p ∷ ps) = refl

module _ (b : ℕ) (bs : List ℕ) (ih : (s : Midst) → Inside bs s) (ih' : (buf : List ℕ) → Without bs buf) where
  module _ (s : Midst) where
    abbrev room : ℕ
    room = length (buffer_of s)

    abbrev event : Event
    event = at_flag (reader_at s).phase (reader_at s).held (buffer_of s)

    none_closed : none_in (closes room s) ≡ quiet event
    none_closed = ap none_in (sym (flag_told s [] ∙ append-nil (closes room s))) ∙ none_heard event (buffer_of s)

    flag_step : eqb b flag ≡ true → step_before (reader_at s) b (buffer_of s) ≡ record { reader = cond (quiet event) opened outside; event = event }
    unfolding step_before
    flag_step e = simp (sound_at s, e) (flag_before_lem (reader_at s).phase (reader_at s).held (buffer_of s))

    flag_kept : eqb b flag ≡ true → buffer_after (reader_at s) b (buffer_of s) ≡ buffer_of s
    unfolding buffer_after
    flag_kept e = simp (sound_at s, e)

    left_tells : (t : Bool) → told (cond t opened outside) bs (buffer_of s) ≡ older room t (pieces bs)
    left_tells true = ih (plain_at [] (buffer_of s)) ∙ from_empty room (pieces bs)
    left_tells false = ih' (buffer_of s)

    flag_inside : eqb b flag ≡ true → told (reader_at s) (b ∷ bs) (buffer_of s) ≡ goes_by (next room) room s ([] ∷ pieces bs)
    unfolding read_by
    flag_inside e =
        rw (flag_step e, flag_kept e)
        (flag_told s (told (cond (quiet event) opened outside) bs (buffer_of s))
        ∙ ap (λ (later : List Said). closes room s ++ later) (left_tells (quiet event) ∙ ap (λ (t : Bool). older room t (pieces bs)) (sym none_closed))
        ∙ sym (flag_split (next room) room s (pieces bs)))

    byte_inside : (t : Bool) → eqb b flag ≡ t → told (reader_at s) (b ∷ bs) (buffer_of s) ≡ goes_by (next room) room s (cond t ([] ∷ pieces bs) (onto b (pieces bs)))
    unfolding read_by heard
    byte_inside true e = flag_inside e
    byte_inside false e =
        let n = steps b e s in
        rw (byte_before (reader_at s) b (buffer_of s) e, n.step, n.kept)
        (ih n.next ∙ ap (λ (k : ℕ). goes_by (next k) k n.next (pieces bs)) n.room ∙ sym (n.split (next room) (pieces bs)))

  byte_without : (buf : List ℕ) (t : Bool) → eqb b flag ≡ t → told outside (b ∷ bs) buf ≡ older (length buf) false (cond t ([] ∷ pieces bs) (onto b (pieces bs)))
  unfolding read_by step_before flag_before buffer_after at_byte buffer_at heard older
  byte_without buf true e = simp (le-ltb (length buf) 0 (omega arith), e) (ih (plain_at [] buf) ∙ from_empty (length buf) (pieces bs))
  byte_without buf false e = simp (le-ltb (length buf) 0 (omega arith), e) (ih' buf ∙ sym (onto_older b (length buf) (pieces bs)))

both : (bs : List ℕ) → ((s : Midst) → Inside bs s) × ((buf : List ℕ) → Without bs buf)
unfolding read_by pieces older
both [] = (λ s. sym (none_left (next (length (buffer_of s))) (length (buffer_of s)) s), λ buf. refl)
both (b ∷ bs) =
    let ih = both bs in
    (λ s. byte_inside b bs ih.0 ih.1 s (eqb b flag) refl, λ buf. byte_without b bs ih.0 ih.1 buf (eqb b flag) refl)

-- ---- with single flags

-- of pieces with a byte in each, every second one is told
second : (room : ℕ) (ps : List (List ℕ)) → NoneEmpty ps → older room true ps ≡ every_second (flat_map (said_of room) ps)
unfolding older none_in NoneEmpty every_second flat_map
second room [] a = refl
second room ([] ∷ ps) a = absurd a
second room ((b ∷ p) ∷ []) a = let x = one_message room b p in rw x.1
second room ((b ∷ p) ∷ [] ∷ ps) a = absurd a
second room ((b ∷ p) ∷ (c ∷ q) ∷ ps) a =
    let x = one_message room b p in
    let y = one_message room c q in
    rw (x.1, y.1) (ap (λ (xs : List Said). x.0 ∷ xs) (second room ps a))

older_messages : (room : ℕ) (ps : List (List ℕ)) → older room false ps ≡ older room true (drop 1 ps)
unfolding older
older_messages _ [] = refl
older_messages _ (p ∷ ps) = refl

of_pieces : (stream buf : List ℕ) → told outside stream buf ≡ older (length buf) true (drop 1 (pieces stream))
of_pieces stream buf = (both stream).1 buf ∙ older_messages (length buf) (pieces stream)

pub loses_every_second : LosesEverySecond
unfolding messages_of
loses_every_second stream buf a = of_pieces stream buf ∙ second (length buf) (drop 1 (pieces stream)) a

-- ---- with two or more

empty_silent : (room : ℕ) → said_of room [] ≡ []
unfolding judged said meant hangs
empty_silent room = simp (le-ltb room 0 (omega arith))

same : (room : ℕ) (ps : List (List ℕ)) → Doubled ps → older room true ps ≡ flat_map (said_of room) ps
unfolding older none_in Doubled flat_map
same room [] a = refl
same room ([] ∷ ps) a = rw (empty_silent room) (same room ps a)
same room ((b ∷ p) ∷ []) a = let x = one_message room b p in rw x.1
same room ((b ∷ p) ∷ [] ∷ ps) a =
    let x = one_message room b p in
    rw (x.1, empty_silent room) (ap (λ (xs : List Said). x.0 ∷ xs) (same room ps a))
same room ((b ∷ p) ∷ (c ∷ q) ∷ ps) a = absurd a

pub same_where_doubled : SameWhereDoubled
unfolding messages_of
same_where_doubled stream buf a = of_pieces stream buf ∙ same (length buf) (drop 1 (pieces stream)) a
