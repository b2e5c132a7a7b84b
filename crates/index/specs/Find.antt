-- A question to an index (document 02, request 1).
use Rattle.std.specs.Prelude.{ℕ, zero, suc, cond, not, List, map, eqb, filter, slice_get, Option, None, Some, Result, Ok, Err}
use Rattle.std.specs.Borrow.{Bor}
use Rattle.advert.specs.Entry.{IsPart}
use Rattle.index.specs.Index.{Slot, slot_tag, listed, sound}
use Rattle.index.specs.declared.Index.{Index}
use Rattle.index.specs.declared.findings.Found.{Found}
use Rattle.refusals.specs.declared.Refusal.{Refusal}
use Rattle.refusals.specs.declared.Refusal.TheVariants.{Unsound}

-- "A question names a tag": of slots, or of a walk's entries, those that have it
abbrev pub with_tag : {A : Type 0} → (A → ℕ) → ℕ → List A → List A
with_tag tag_in tag xs = filter (λ x. eqb (tag_in x) tag) xs

abbrev pub found_at : Slot → Found
found_at s = record { place = s.place; length = s.size }

-- "and an occurrence, counted from 1, and gets the value .. at that occurrence, or "none""
abbrev pub occurrence : ℕ → List Slot → Option Found
occurrence zero slots = None
occurrence (suc n) slots = slice_get (map found_at slots) n

unfoldable pub found : Index → ℕ → ℕ → ℕ → Result (Option Found) Refusal
found index bytes tag nth =
    cond (not (sound index bytes)) (Err Unsound) (Ok (occurrence nth (with_tag slot_tag tag (listed index))))

-- the value as a part of the advertisement; an empty part at its start on any other answer, as of an entry (document
-- 01)
abbrev pub part_start : Result (Option Found) Refusal → ℕ
part_start (Ok (Some f)) = f.place
part_start (Ok None) = 0
part_start (Err refusal) = 0

abbrev pub part_length : Result (Option Found) Refusal → ℕ
part_length (Ok (Some f)) = f.length
part_length (Ok None) = 0
part_length (Err refusal) = 0

abbrev pub IsFound : Bor (List ℕ) → Result (Option Found) Refusal → Bor (List ℕ) → Type 0
IsFound cargo answer r = IsPart cargo (part_start answer) (part_length answer) r
