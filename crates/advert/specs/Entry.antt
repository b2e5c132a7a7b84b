-- What stands at a place of an advertisement (document 01, "Advertisement and error list"; 004, 5.2).
use Rattle.std.specs.Prelude.{ℕ, ◌+◌, ◌-◌, ◌≡◌, List, cond, ltb, leb, eqb, length, get_or, take, drop, Option, None, Some, Result, Ok, Err}
use Rattle.std.specs.Borrow.{Bor}
use Rattle.advert.specs.declared.entry.Entry.{Entry}
use Rattle.advert.specs.Tags.{mark_of}
use Rattle.refusals.specs.declared.Refusal.{Refusal}
use Rattle.refusals.specs.declared.Refusal.TheVariants.{OneByteLeft, ValuePastEnd}

-- an entry, no more, or a refusal
abbrev pub EntryAnswer : Type 0
EntryAnswer = Result (Option Entry) Refusal

-- "An entry is tag, length, value, the first two one byte each; a length of 0 is allowed."
abbrev pub tag_at : List ℕ → ℕ → ℕ
tag_at cargo place = get_or cargo place 0

abbrev pub length_at : List ℕ → ℕ → ℕ
length_at cargo place = get_or cargo (place + 1) 0

abbrev pub entry_in : List ℕ → ℕ → Entry
entry_in cargo place =
    let tag = tag_at cargo place in
    let n = length_at cargo place in
    record { tag = tag; length = n; next = place + 2 + n; mark = mark_of tag n }

-- "at or past the end it answers "no more""; 34, "one byte left where an entry begins"; 35, "value runs past the end"
unfoldable pub entry_at : List ℕ → ℕ → EntryAnswer
entry_at cargo place =
    cond (leb (length cargo) place) (Ok None)
    (cond (eqb (length cargo - place) 1) (Err OneByteLeft)
    (cond (ltb (length cargo - (place + 2)) (length_at cargo place)) (Err ValuePastEnd)
    (Ok (Some (entry_in cargo place)))))

abbrev pub tag_of : EntryAnswer → ℕ
tag_of (Ok (Some entry)) = entry.tag
tag_of (Ok None) = 0
tag_of (Err refusal) = 0

-- "The value is handed back as that part of the caller's own cargo, an empty part on any other answer":
-- where the part starts, the empty one being at the cargo's start, and its length
abbrev pub value_start : EntryAnswer → ℕ
value_start (Ok (Some entry)) = entry.next - entry.length
value_start (Ok None) = 0
value_start (Err refusal) = 0

abbrev pub value_length : EntryAnswer → ℕ
value_length (Ok (Some entry)) = entry.length
value_length (Ok None) = 0
value_length (Err refusal) = 0

abbrev pub value_in : List ℕ → EntryAnswer → List ℕ
value_in cargo answer = take (value_length answer) (drop (value_start answer) cargo)

-- r is a part of the cargo, n bytes from a place on: its bytes, and the very place in memory
pub record IsPart (cargo : Bor (List ℕ)) (from n : ℕ) (r : Bor (List ℕ)) : Type 0 where
  pub bytes : r.now ≡ take n (drop from cargo.now)
  pub block : r.ref_ptr.0 ≡ cargo.ref_ptr.0
  pub start : r.ref_ptr.1 ≡ from + cargo.ref_ptr.1

abbrev pub IsValue : Bor (List ℕ) → EntryAnswer → Bor (List ℕ) → Type 0
IsValue cargo answer r = IsPart cargo (value_start answer) (value_length answer) r
