-- The entries that an index had come first in what it becomes.
use mathlib.Core.Path.{◌≡◌, refl, sym}
use mathlib.Core.List.{List, [], map, append-nil}
use Prim.Native.Nat.{ℕ}
use Rattle.std.specs.Prelude.{Result, Ok, Err}
use Rattle.refusals.specs.declared.Refusal.{Refusal}
use Rattle.advert.specs.Walk.{entries_from}
use Rattle.index.specs.Index.{slot_of, listed}
use Rattle.index.specs.Grow.{unless_refused, extended, after_call}
use Rattle.index.specs.Whole.{Begins}
use Rattle.index.specs.declared.Index.{Index}
use Rattle.index.proofs.Adding.{Sized, listed_all}
use Rattle.index.proofs.Equal.{grew}

module _ (index : Index) (cargo : List ℕ) (s : Sized index) where
  begins_by : (answer : Result Index Refusal) → extended index cargo ≡ answer → Begins index (unless_refused index answer)
  begins_by (Ok after) e =
      let g = grew index cargo after e in
      rw (← g.is) (record { rest = map slot_of (entries_from cargo index.next); same = listed_all index (entries_from cargo index.next) s g.few })
  begins_by (Err refusal) e = record { rest = []; same = sym (append-nil (listed index)) }

  pub earlier_stay : Begins index (after_call index cargo)
  earlier_stay = begins_by (extended index cargo) refl
