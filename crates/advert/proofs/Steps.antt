-- The whole walk by the answer at its place: an entry comes first and the walk goes on behind it; any other answer ends it.
use mathlib.Core.Path.{◌≡◌, refl, sym, ap, ◌∙◌}
use mathlib.Core.List.{List, [], ◌∷◌}
use mathlib.Core.Logic.{⊎_elim}
use Prim.Native.Nat.{ℕ, zero, suc, ◌+◌, ◌≤◌}
use native.Mathlib.Omega.{arith}
use lib.ListN.{length}
use Rattle.std.specs.Prelude.{None, Some, Ok, Err}
use Rattle.advert.specs.Entry.{EntryAnswer, entry_at}
use Rattle.advert.specs.Walk.{place_after, next_place, goes_on, ends_with, entries_by, end_by, entries_from, end_from}
use Rattle.advert.specs.declared.entry.Entry.{Entry}
use Rattle.refusals.specs.Number.{number_of, number_in}
use Rattle.refusals.specs.declared.Refusal.{Refusal}
use Rattle.refusals.specs.declared.Refusal.TheVariants.{OneByteLeft, ValuePastEnd}
use Rattle.laws.proofs.Tests.{clash}
use Rattle.advert.proofs.Inside.{inside, past, refused_by}

-- a walk of at most f entries by its first answer
abbrev pub WalksBy : ℕ → List ℕ → ℕ → List EntryAnswer → EntryAnswer → Type 0
WalksBy f cargo place entries end = (entries_by f cargo place ≡ entries) × (end_by f cargo place ≡ end)

-- what follows the answer e where one more entry is allowed than f
abbrev Onward : ℕ → List ℕ → ℕ → EntryAnswer → Type 0
Onward f cargo place e =
    (goes_on e (entries_by f cargo (place_after e place)) ≡ goes_on e (entries_by (suc f) cargo (place_after e place)))
    × (ends_with e (end_by f cargo (place_after e place)) ≡ ends_with e (end_by (suc f) cargo (place_after e place)))

onward : (f : ℕ) (cargo : List ℕ) (place : ℕ) → length cargo ≤ place + suc f
    → ((p : ℕ) → length cargo ≤ p + f → WalksBy f cargo p (entries_by (suc f) cargo p) (end_by (suc f) cargo p))
    → (e : EntryAnswer) → entry_at cargo place ≡ e → Onward f cargo place e
onward f cargo place h rest (Ok (Some entry)) q =
    let behind = inside cargo place entry q in
    let same = rest entry.next (omega (arith, behind.end)) in
    (ap (λ (es : List EntryAnswer). Ok (Some entry) ∷ es) same.0, same.1)
onward f cargo place h rest (Ok None) q = (refl, refl)
onward f cargo place h rest (Err refusal) q = (refl, refl)

-- a walk that reaches the end gets no longer where more entries are allowed
enough : (f : ℕ) (cargo : List ℕ) (place : ℕ) → length cargo ≤ place + f → WalksBy f cargo place (entries_by (suc f) cargo place) (end_by (suc f) cargo place)
enough zero cargo place h =
    let q = past cargo place (omega arith) in
    (sym (ap (λ (e : EntryAnswer). goes_on e []) q), sym (ap (λ (e : EntryAnswer). ends_with e (Ok None)) q))
enough (suc f) cargo place h = onward f cargo place h (λ p l. enough f cargo p l) (entry_at cargo place) refl

module _ (cargo : List ℕ) (place : ℕ) where
  entry_by : (entry : Entry) → entry_at cargo place ≡ Ok (Some entry) → (f : ℕ) → length cargo ≤ place + f
      → WalksBy f cargo place (Ok (Some entry) ∷ entries_by f cargo entry.next) (end_by f cargo entry.next)
  entry_by entry q zero h = let room = inside cargo place entry q in absurd (omega (arith, room.end, room.room))
  entry_by entry q (suc f) h =
      let behind = inside cargo place entry q in
      let same = enough f cargo entry.next (omega (arith, behind.end)) in (
        ap (λ (e : EntryAnswer). goes_on e (entries_by f cargo (place_after e place))) q ∙ ap (λ (es : List EntryAnswer). Ok (Some entry) ∷ es) same.0,
        ap (λ (e : EntryAnswer). ends_with e (end_by f cargo (place_after e place))) q ∙ same.1,
      )

  ended_by : (e : EntryAnswer) → entry_at cargo place ≡ e → ((rest : List EntryAnswer) → goes_on e rest ≡ []) → ((rest : EntryAnswer) → ends_with e rest ≡ e) → (f : ℕ)
      → WalksBy (suc f) cargo place [] e
  ended_by e q none last f = (
    ap (λ (x : EntryAnswer). goes_on x (entries_by f cargo (place_after x place))) q ∙ none _,
    ap (λ (x : EntryAnswer). ends_with x (end_by f cargo (place_after x place))) q ∙ last _,
  )

  -- the whole walk
  abbrev pub Walks : List EntryAnswer → EntryAnswer → Type 0
  Walks entries end = (entries_from cargo place ≡ entries) × (end_from cargo place ≡ end)

  pub walks_entry : (entry : Entry) → entry_at cargo place ≡ Ok (Some entry) → Walks (Ok (Some entry) ∷ entries_from cargo entry.next) (end_from cargo entry.next)
  walks_entry entry q = entry_by entry q (length cargo) (omega arith)

  pub walks_no_more : entry_at cargo place ≡ Ok None → Walks [] (Ok None)
  walks_no_more q = by_length (length cargo)
    where
      by_length : (f : ℕ) → WalksBy f cargo place [] (Ok None)
      by_length zero = (refl, refl)
      by_length (suc f) = ended_by (Ok None) q (λ rest. refl) (λ rest. refl) f

  pub walks_refused : (refusal : Refusal) → entry_at cargo place ≡ Err refusal → Walks [] (Err refusal)
  walks_refused refusal q = by_length (length cargo) refl
    where
      by_length : (f : ℕ) → length cargo ≡ f → WalksBy f cargo place [] (Err refusal)
      by_length zero e = let none = past cargo place (omega arith) in absurd (clash (cc))
      by_length (suc f) e = ended_by (Err refusal) q (λ rest. refl) (λ rest. refl) f

-- a walk whose end has number 0 met no damage
by_end : (cargo : List ℕ) (place : ℕ) (e rest : EntryAnswer) → entry_at cargo place ≡ e → (number_in rest ≡ 0 → rest ≡ Ok None) → number_in (ends_with e rest) ≡ 0 → ends_with e rest ≡ Ok None
by_end cargo place (Ok (Some entry)) rest q end z = end z
by_end cargo place (Ok None) rest q end z = refl
by_end cargo place (Err refusal) rest q end z = absurd (⊎_elim (λ is. let z : number_of OneByteLeft ≡ 0 = cc in omega arith) (λ is. let z : number_of ValuePastEnd ≡ 0 = cc in omega arith) (refused_by cargo place refusal q))

undamaged_by : (f : ℕ) (cargo : List ℕ) (place : ℕ) → number_in (end_by f cargo place) ≡ 0 → end_by f cargo place ≡ Ok None
undamaged_by zero cargo place z = refl
undamaged_by (suc f) cargo place z = by_end cargo place (entry_at cargo place) (end_by f cargo (next_place cargo place)) refl (undamaged_by f cargo (next_place cargo place)) z

pub undamaged : (cargo : List ℕ) (place : ℕ) → number_in (end_from cargo place) ≡ 0 → end_from cargo place ≡ Ok None
undamaged cargo place z = undamaged_by (length cargo) cargo place z
