-- Where an entry stands: its value lies within the cargo, and the next place is behind it. Any other answer has no value.
use mathlib.Core.Path.{◌≡◌, refl, sym, ◌∙◌}
use mathlib.Core.List.{List, ◌++◌}
use mathlib.Core.Logic.{◌⊎◌}
use Prim.Native.Nat.{ℕ, ◌+◌, ◌≤◌}
use native.Mathlib.Omega.{arith}
use lib.ListN.{length, length-append, get_or-append}
use Rattle.std.specs.Prelude.{None, Some, Ok, Err}
use Rattle.advert.specs.Entry.{EntryAnswer, entry_at, entry_in, length_at, value_start, value_length}
use Rattle.advert.specs.declared.entry.Entry.{Entry}
use Rattle.refusals.specs.declared.Refusal.{Refusal}
use Rattle.refusals.specs.declared.Refusal.TheVariants.{OneByteLeft, ValuePastEnd}

pub record Inside (cargo : List ℕ) (place : ℕ) (entry : Entry) : Type 0 where
  pub size : entry.length ≡ length_at cargo place
  pub end : entry.next ≡ place + 2 + entry.length
  pub room : entry.next ≤ length cargo

pub inside : (cargo : List ℕ) (place : ℕ) (entry : Entry) → entry_at cargo place ≡ Ok (Some entry) → Inside cargo place entry
unfolding entry_at
inside cargo place entry e = record { size = grind arith; end = grind arith; room = grind arith }

-- and where it has room, it stands
pub stands : (cargo : List ℕ) (place : ℕ) → place + 2 + length_at cargo place ≤ length cargo → entry_at cargo place ≡ Ok (Some (entry_in cargo place))
unfolding entry_at
stands cargo place room = grind arith

-- at or past the end none does
pub past : (cargo : List ℕ) (place : ℕ) → length cargo ≤ place → entry_at cargo place ≡ Ok None
unfolding entry_at
past cargo place h = grind arith

-- also where bytes are added behind it
pub stays : (cargo more : List ℕ) (place : ℕ) (entry : Entry) → entry_at cargo place ≡ Ok (Some entry) → entry_at (cargo ++ more) place ≡ Ok (Some entry)
stays cargo more place entry e =
    let i = inside cargo place entry e in
    let tag-kept = get_or-append cargo more 0 place (omega (arith, i.end, i.room)) in
    let length-kept = get_or-append cargo more 0 (place + 1) (omega (arith, i.end, i.room)) in
    let there = stands cargo place (omega (arith, i.size, i.end, i.room)) in
    let still = stands (cargo ++ more) place (rw length-kept (omega (arith, i.size, i.end, i.room, length-append cargo more))) in
    still ∙ rw (tag-kept, length-kept) (sym there ∙ e)

pub no_value : (answer : EntryAnswer) → ((entry : Entry) → answer ≡ Ok (Some entry) → ⊥) → (value_start answer ≡ 0) × (value_length answer ≡ 0)
no_value (Ok (Some entry)) other = absurd (other entry refl)
no_value (Ok None) other = (refl, refl)
no_value (Err refusal) other = (refl, refl)

-- a refusal is 34 or 35
pub refused_by : (cargo : List ℕ) (place : ℕ) (refusal : Refusal) → entry_at cargo place ≡ Err refusal → (refusal ≡ OneByteLeft) ⊎ (refusal ≡ ValuePastEnd)
unfolding entry_at
refused_by cargo place refusal e = grind arith
