-- What is found in a sound index lies within the advertisement. Any other answer has no part.
use mathlib.Core.Path.{◌≡◌, refl}
use mathlib.Core.Bool.{true}
use mathlib.Core.List.{List, [], ◌∷◌, map}
use Prim.Native.Nat.{ℕ, zero, suc, ◌+◌, ◌≤◌}
use native.Mathlib.Omega.{arith}
use borrow.Author.Tests.{leb-true}
use lib.Dec.{leb}
use Rattle.laws.proofs.Tests.{clash, and-true}
use Rattle.std.proofs.lemmas.List.Sums.{AllPass-from_list_all, list_all-from_AllPass}
use Rattle.std.proofs.lemmas.List.Elements.{All-filter}
use Rattle.index.specs.Index.{Slot, slot_tag, listed, all_within, sound}
use Rattle.index.specs.Find.{with_tag, found_at, occurrence, found, part_start, part_length}
use Rattle.index.specs.declared.Index.{Index}
use Rattle.index.specs.declared.findings.Found.{Found}
use Rattle.refusals.specs.declared.Refusal.{Refusal}
use Rattle.std.specs.Prelude.{Option, None, Some, Result, Ok, Err, slice_get}
use Rattle.index.proofs.Listing.{within_all}

module _ (bytes : ℕ) where
  abbrev Lies : Slot → Type 0
  Lies s = leb (s.place + s.size) bytes ≡ true

  all_of_tag : (tag : ℕ) (slots : List Slot) → all_within bytes slots ≡ true → all_within bytes (with_tag slot_tag tag slots) ≡ true
  all_of_tag tag slots e = list_all-from_AllPass _ _ (All-filter _ Lies slots (AllPass-from_list_all _ slots e))

  at_within : (slots : List Slot) (i : ℕ) (f : Found) → all_within bytes slots ≡ true → slice_get (map found_at slots) i ≡ Some f → f.place + f.length ≤ bytes
  at_within [] i f e is = absurd (clash cc)
  at_within (s ∷ slots) zero f e is =
      let p : s.place ≡ f.place = cc in
      let m : s.size ≡ f.length = cc in
      omega (arith, leb-true (s.place + s.size) bytes (and-true (leb (s.place + s.size) bytes) (all_within bytes slots) e).0)
  at_within (s ∷ slots) (suc i) f e is = at_within slots i f (and-true (leb (s.place + s.size) bytes) _ e).1 is

  occurrence_within : (slots : List Slot) (nth : ℕ) (f : Found) → all_within bytes slots ≡ true → occurrence nth slots ≡ Some f → f.place + f.length ≤ bytes
  occurrence_within slots zero f e is = absurd (clash cc)
  occurrence_within slots (suc i) f e is = at_within slots i f e is

  pub found_within : (index : Index) (tag nth : ℕ) (f : Found) → found index bytes tag nth ≡ Ok (Some f) → f.place + f.length ≤ bytes
  unfolding found
  found_within index tag nth f is =
      let whole : sound index bytes ≡ true = grind arith in
      let there : occurrence nth (with_tag slot_tag tag (listed index)) ≡ Some f = grind arith in
      occurrence_within (with_tag slot_tag tag (listed index)) nth f (all_of_tag tag (listed index) (within_all index bytes whole)) there

pub no_part : (answer : Result (Option Found) Refusal) → ((f : Found) → answer ≡ Ok (Some f) → ⊥) → (part_start answer ≡ 0) × (part_length answer ≡ 0)
no_part (Ok (Some f)) other = absurd (other f refl)
no_part (Ok None) other = (refl, refl)
no_part (Err refusal) other = (refl, refl)
