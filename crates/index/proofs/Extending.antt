-- Adding in steps is building once, whatever calls came before, refused ones too.
use mathlib.Core.Path.{◌≡◌, refl, sym, ap, ◌∙◌}
use mathlib.Core.Bool.{true}
use mathlib.Core.List.{List, [], ◌∷◌, ◌++◌, append-nil, append_assoc}
use Prim.Native.Nat.{ℕ, zero, suc, ◌+◌}
use native.Mathlib.Omega.{arith}
use borrow.Author.Tests.{le-leb, leb-true}
use lib.Dec.{leb}
use lib.ListN.{length, length-append}
use Rattle.std.specs.Prelude.{None, Some, Result, Ok, Err}
use Rattle.std.proofs.lemmas.List.Sums.{AllPass-from_list_all, list_all-from_AllPass}
use Rattle.std.proofs.lemmas.List.Elements.{All-weaker}
use Rattle.laws.proofs.Tests.{and-true}
use Rattle.refusals.specs.declared.Refusal.{Refusal}
use Rattle.advert.specs.Entry.{EntryAnswer, entry_at}
use Rattle.advert.specs.Walk.{goes_on, place_after, entries_by}
use Rattle.advert.proofs.Inside.{stays}
use Rattle.index.specs.Index.{Slot, listed, all_within, sound, empty_at}
use Rattle.index.specs.Grow.{added, added_all, walked, unless_refused, extended, after_call, built}
use Rattle.index.specs.Whole.{IsWalk, joined, index_after}
use Rattle.index.specs.declared.Index.{Index}
use Rattle.index.proofs.Growing.{walked_entry, is_walked}
use Rattle.index.proofs.Equal.{grew, index_is_walk}

-- the walk over a longer advertisement goes on where that over its front has come to
module _ (front more : List ℕ) where
  goes_on_by : (f : ℕ) (index : Index) → ((i : Index) → walked (added_all i (entries_by f front i.next)) (front ++ more) ≡ walked i (front ++ more))
      → (e : EntryAnswer) → entry_at front index.next ≡ e
      → walked (added_all index (goes_on e (entries_by f front (place_after e index.next)))) (front ++ more) ≡ walked index (front ++ more)
  goes_on_by f index rest (Ok (Some entry)) q = rest (added index (Ok (Some entry))) ∙ walked_entry index (front ++ more) entry (stays front more index.next entry q)
  goes_on_by f index rest (Ok None) q = refl
  goes_on_by f index rest (Err refusal) q = refl

  goes_on_lem : (f : ℕ) (index : Index) → walked (added_all index (entries_by f front index.next)) (front ++ more) ≡ walked index (front ++ more)
  goes_on_lem zero index = refl
  goes_on_lem (suc f) index = goes_on_by f index (goes_on_lem f) (entry_at front index.next) refl

within_more : (bytes more : ℕ) (slots : List Slot) → all_within bytes slots ≡ true → all_within (bytes + more) slots ≡ true
within_more bytes more slots all =
    let wider = λ (s : Slot) (h : leb (s.place + s.size) bytes ≡ true). le-leb (s.place + s.size) (bytes + more) (omega (arith, leb-true (s.place + s.size) bytes h)) in
    list_all-from_AllPass _ slots (All-weaker _ (λ s. leb (s.place + s.size) (bytes + more) ≡ true) wider slots (AllPass-from_list_all _ slots all))

sound_more : (index : Index) (bytes more : ℕ) → sound index bytes ≡ true → sound index (bytes + more) ≡ true
unfolding sound
sound_more index bytes more e =
    let both = and-true (leb index.count 64) (all_within bytes (listed index)) e in
    rw both.0 (within_more bytes more (listed index) both.1)

empty_sound : (place bytes : ℕ) → sound (empty_at place) bytes ≡ true
unfolding sound
empty_sound place bytes = refl

module _ (place : ℕ) (front more : List ℕ) (index : Index) (is : built front place ≡ Ok index) where
  still_sound : sound index (length (front ++ more)) ≡ true
  still_sound =
      let walk = index_is_walk front place index is in
      rw length-append (sound_more index (length front) (length more) walk.taken)

  -- an index built over a front of the advertisement, extended, is the index built over the whole
  pub extended_is_built : extended index (front ++ more) ≡ built (front ++ more) place
  extended_is_built =
      let g = grew (empty_at place) front index is in
      let on : walked index (front ++ more) ≡ walked (empty_at place) (front ++ more) = ap (λ (i : Index). walked i (front ++ more)) (sym g.is) ∙ goes_on_lem front more (length front) (empty_at place) in
      is_walked index (front ++ more) still_sound
      ∙ on
      ∙ sym (is_walked (empty_at place) (front ++ more) (empty_sound place (length (front ++ more))))

-- an index built once over a front of the advertisement
record Kept (place : ℕ) (cargo : List ℕ) (index : Index) : Type 0 where
  front : List ℕ
  rest : List ℕ
  split : cargo ≡ front ++ rest
  is : built front place ≡ Ok index

kept_empty : (place : ℕ) → Kept place [] (empty_at place)
unfolding extended sound walked
kept_empty place = record { front = []; rest = []; split = refl; is = refl }

module _ (place : ℕ) (cargo : List ℕ) (index : Index) (more : List ℕ) (k : Kept place cargo index) where
  whole : cargo ++ more ≡ k.front ++ (k.rest ++ more)
  whole = ap (λ (l : List ℕ). l ++ more) k.split ∙ append_assoc k.front k.rest more

  as_built : extended index (cargo ++ more) ≡ built (cargo ++ more) place
  as_built = rw whole (extended_is_built place k.front (k.rest ++ more) index k.is)

  kept_by : (answer : Result Index Refusal) → built (cargo ++ more) place ≡ answer → Kept place (cargo ++ more) (unless_refused index answer)
  kept_by (Ok after) e = record { front = cargo ++ more; rest = []; split = sym (append-nil (cargo ++ more)); is = e }
  kept_by (Err refusal) e = record { front = k.front; rest = k.rest ++ more; split = whole; is = k.is }

  kept_on : Kept place (cargo ++ more) (after_call index (cargo ++ more))
  kept_on = kept_by _ (sym as_built)

kept_after : (place : ℕ) (pieces : List (List ℕ)) (cargo : List ℕ) (index : Index) → Kept place cargo index → Kept place (joined cargo pieces) (index_after index cargo pieces)
kept_after place [] cargo index k = k
kept_after place (more ∷ pieces) cargo index k = kept_after place pieces (cargo ++ more) (after_call index (cargo ++ more)) (kept_on place cargo index more k)

module _ (place : ℕ) (pieces : List (List ℕ)) (more : List ℕ) where
  abbrev index : Index
  index = index_after (empty_at place) [] pieces

  abbrev cargo : List ℕ
  cargo = joined [] pieces ++ more

  -- refused alike, too
  pub adding_is_building : extended index cargo ≡ built cargo place
  adding_is_building = as_built place (joined [] pieces) index more (kept_after place pieces [] (empty_at place) (kept_empty place))

  -- where the last call was not refused
  pub last_is_walk : (after : Index) → extended index cargo ≡ Ok after → IsWalk cargo place after
  last_is_walk after e = index_is_walk cargo place after (sym adding_is_building ∙ e)
