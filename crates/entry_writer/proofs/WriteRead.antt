-- An entry that was written is read back, and so is its value.
use mathlib.Core.Path.{◌≡◌, refl, ap, ◌∙◌}
use mathlib.Core.List.{List, [], ◌∷◌, ◌++◌}
use Prim.Native.Nat.{ℕ, ◌+◌, ◌-◌, ◌≤◌}
use native.Mathlib.Omega.{arith}
use borrow.Author.Tests.{le-ltb}
use lib.ListN.{length, take, drop, length-append}
use lib.Seq.{get_or-append_seam, get_or-append-add, drop-append-add, take-append_seam}
use Rattle.advert.specs.Tags.{mark_of}
use Rattle.std.specs.Prelude.{Some, Ok}
use Rattle.advert.specs.Entry.{entry_at, tag_at, length_at, value_in}
use Rattle.entry_writer.specs.Write.{write_answer, entry_bytes, entry_written}
use Rattle.advert.specs.declared.entry.Entry.{Entry}
use Rattle.advert.proofs.Inside.{stands}

-- the entry of a tag and a value, where it stands at a place
abbrev pub entry_of : ℕ → ℕ → List ℕ → Entry
entry_of place tag value =
    record { tag = tag; length = length value; next = place + 2 + length value; mark = mark_of tag (length value) }

-- wherever an entry stands in a cargo
module _ (before : List ℕ) (tag : ℕ) (value rest : List ℕ) where
  abbrev cargo : List ℕ
  cargo = before ++ (entry_bytes tag value ++ rest)

  abbrev place : ℕ
  place = length before

  tag_there : tag_at cargo place ≡ tag
  tag_there = get_or-append_seam before tag (length value ∷ value ++ rest) 0

  length_there : length_at cargo place ≡ length value
  length_there = get_or-append-add before (entry_bytes tag value ++ rest) 1 0

  room : length cargo ≡ place + 2 + length value + length rest
  room = simp length-append (omega arith)

  pub entry_read : entry_at cargo place ≡ Ok (Some (entry_of place tag value))
  entry_read = stands cargo place (rw length_there (omega (arith, room))) ∙ rw (tag_there, length_there) refl

  pub value_read : value_in cargo (entry_at cargo place) ≡ value
  value_read =
      let start : place + 2 + length value - length value ≡ place + 2 = omega arith in
      rw (entry_read, start) (ap (take (length value)) (drop-append-add before (entry_bytes tag value ++ rest) 2) ∙ take-append_seam value rest)

-- the output of a write that was not refused, read from its front
pub written_read : (out : List ℕ) (tag : ℕ) (value : List ℕ) → length value ≤ 255 → length value + 2 ≤ length out
    → (entry_at (entry_written out tag value) 0 ≡ Ok (Some (entry_of 0 tag value))) × (value_in (entry_written out tag value) (entry_at (entry_written out tag value) 0) ≡ value)
unfolding write_answer entry_written
written_read out tag value short room =
    let rest = drop (length (entry_bytes tag value)) out in
    simp (le-ltb 255 (length value) short, le-ltb (length out) (length value + 2) room) (entry_read [] tag value rest, value_read [] tag value rest)
