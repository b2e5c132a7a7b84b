-- A question to an index that is the walk gives what the walk reaches, and none exactly when it meets no such entry.
use mathlib.Core.Path.{◌≡◌, refl, sym, ap, subst, ◌∙◌}
use mathlib.Core.Bool.{Bool, true, false, cond}
use mathlib.Core.List.{List, [], ◌∷◌, map}
use mathlib.Core.Logic.{◌⊎◌, inl, inr, ⊎_elim}
use Prim.Native.Nat.{ℕ, zero, suc, ◌≤◌, ◌<◌}
use native.Mathlib.Omega.{arith}
use lib.Dec.{eqb}
use lib.ListN.{length, get_or, length-map}
use Rattle.std.proofs.lemmas.Option.{slice_get_past}
use denote.Ref.{Bor}
use Rattle.laws.proofs.Tests.{clash}
use Rattle.advert.specs.Entry.{EntryAnswer, entry_at, tag_of, IsValue}
use Rattle.advert.specs.Walk.{goes_on, next_place, entries_by, entries_from}
use Rattle.index.specs.Index.{Slot, slot_tag, slot_of, walked_slots}
use Rattle.index.specs.Find.{with_tag, found_at, occurrence, found, IsFound}
use Rattle.index.specs.Whole.{IsWalk, reached, as_found, NoSuch}
use Rattle.index.specs.declared.Index.{Index}
use Rattle.index.specs.declared.findings.Found.{Found}
use Rattle.refusals.specs.declared.Refusal.{Refusal}
use Rattle.std.specs.Prelude.{Option, None, Some, Result, Ok, Err, slice_get}

-- the n-th of the slots with the tag is the n-th of the entries with it
abbrev Same : ℕ → List EntryAnswer → Type 0
Same tag entries = (n : ℕ) → Ok (slice_get (map found_at (with_tag slot_tag tag (map slot_of entries))) n) ≡ as_found (get_or (with_tag tag_of tag entries) n (Ok None))

same_behind : (tag : ℕ) (b : Bool) (e : EntryAnswer) (rest : List EntryAnswer) → Ok (Some (found_at (slot_of e))) ≡ as_found e → Same tag rest → (n : ℕ)
    → Ok (slice_get (map found_at (cond b (slot_of e ∷ with_tag slot_tag tag (map slot_of rest)) (with_tag slot_tag tag (map slot_of rest)))) n) ≡ as_found (get_or (cond b (e ∷ with_tag tag_of tag rest) (with_tag tag_of tag rest)) n (Ok None))
same_behind tag true e rest q same zero = q
same_behind tag true e rest q same (suc n) = same n
same_behind tag false e rest q same n = same n

same_by : (tag : ℕ) (e : EntryAnswer) (rest : List EntryAnswer) → Same tag rest → Same tag (goes_on e rest)
same_by tag (Ok (Some entry)) rest same n = same_behind tag (eqb entry.tag tag) (Ok (Some entry)) rest refl same n
same_by tag (Ok None) rest same n = refl
same_by tag (Err refusal) rest same n = refl

same_walk : (f tag : ℕ) (cargo : List ℕ) (place : ℕ) → Same tag (entries_by f cargo place)
same_walk zero tag cargo place n = refl
same_walk (suc f) tag cargo place n = same_by tag (entry_at cargo place) (entries_by f cargo (next_place cargo place)) (same_walk f tag cargo (next_place cargo place)) n

-- and there are as many
as_many_by : (tag : ℕ) (b : Bool) (e : EntryAnswer) (rest : List EntryAnswer) → length (with_tag slot_tag tag (map slot_of rest)) ≡ length (with_tag tag_of tag rest)
    → length (cond b (slot_of e ∷ with_tag slot_tag tag (map slot_of rest)) (with_tag slot_tag tag (map slot_of rest))) ≡ length (cond b (e ∷ with_tag tag_of tag rest) (with_tag tag_of tag rest))
as_many_by tag true e rest h = ap suc h
as_many_by tag false e rest h = h

as_many : (tag : ℕ) (entries : List EntryAnswer) → length (with_tag slot_tag tag (map slot_of entries)) ≡ length (with_tag tag_of tag entries)
as_many tag [] = refl
as_many tag (e ∷ entries) = as_many_by tag (eqb (tag_of e) tag) e entries (as_many tag entries)

-- an occurrence that is none, and none that is no occurrence
none_there : (slots : List Slot) (n : ℕ) → slice_get (map found_at slots) n ≡ None → length slots ≤ n
none_there [] n e = omega arith
none_there (s ∷ slots) zero e = absurd (clash cc)
none_there (s ∷ slots) (suc n) e = let rest = none_there slots n e in omega arith

too_few : (slots : List Slot) (nth : ℕ) → occurrence nth slots ≡ None → (nth ≡ 0) ⊎ (length slots < nth)
too_few slots zero e = inl refl
too_few slots (suc n) e = let h = none_there slots n e in inr (omega arith)

none_of : (slots : List Slot) (nth : ℕ) → (nth ≡ 0) ⊎ (length slots < nth) → occurrence nth slots ≡ None
none_of slots zero h = refl
none_of slots (suc n) h = ⊎_elim (λ (z : suc n ≡ 0). absurd (omega arith)) (λ (few : length slots < suc n). slice_get_past (map found_at slots) n (rw (length-map slots found_at) (omega arith))) h

module _ (cargo : List ℕ) (place : ℕ) (index : Index) (walk : IsWalk cargo place index) (tag nth : ℕ) where
  as_asked : found index (length cargo) tag nth ≡ Ok (occurrence nth (with_tag slot_tag tag (walked_slots cargo place)))
  unfolding found
  as_asked = rw (walk.taken, walk.equal) refl

  as_reached : (n : ℕ) → Ok (occurrence n (with_tag slot_tag tag (walked_slots cargo place))) ≡ as_found (reached cargo place tag n)
  as_reached zero = refl
  as_reached (suc n) = same_walk (length cargo) tag cargo place n

  pub found_is_reached : found index (length cargo) tag nth ≡ as_found (reached cargo place tag nth)
  found_is_reached = as_asked ∙ as_reached nth

  pub none_exactly : (found index (length cargo) tag nth ≡ Ok None → NoSuch cargo place tag nth) × (NoSuch cargo place tag nth → found index (length cargo) tag nth ≡ Ok None)
  none_exactly =
      let many = as_many tag (entries_from cargo place) in (
        (λ e. let none : occurrence nth (with_tag slot_tag tag (walked_slots cargo place)) ≡ None = let asked = sym as_asked ∙ e in cc in rw many at (too_few _ nth none)),
        (λ h. let none = none_of _ nth (rw (← many) at h) in rw none at as_asked),
      )

-- the part that `value` hands back is the value of the entry that the walk reaches
as_part : (cargo : Bor (List ℕ)) (r : Bor (List ℕ)) (e : EntryAnswer) → IsFound cargo (as_found e) r → IsValue cargo e r
as_part cargo r (Ok (Some entry)) is = is
as_part cargo r (Ok None) is = is
as_part cargo r (Err refusal) is = is

pub value_is_reached : (cargo : Bor (List ℕ)) (place : ℕ) (index : Index) → IsWalk cargo.now place index → (tag nth : ℕ) (r : Bor (List ℕ))
    → IsFound cargo (found index (length cargo.now) tag nth) r → IsValue cargo (reached cargo.now place tag nth) r
value_is_reached cargo place index walk tag nth r is =
    as_part cargo r (reached cargo.now place tag nth) (subst (λ (answer : Result (Option Found) Refusal). IsFound cargo answer r) (found_is_reached cargo.now place index walk tag nth) is)
