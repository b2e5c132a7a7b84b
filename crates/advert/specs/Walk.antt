-- The plain walk over an advertisement, from a place on (document 01, "Advertisement and error list", "Answer
-- numbers").
use Rattle.std.specs.Prelude.{ℕ, zero, suc, List, [], ◌∷◌, length, get_or, None, Some, Ok, Err}
use Rattle.advert.specs.Entry.{EntryAnswer, entry_at}

-- the place after an answer: an entry's next place; "after 34 or 35 the place stays", as it does at the end
abbrev pub place_after : EntryAnswer → ℕ → ℕ
place_after (Ok (Some entry)) place = entry.next
place_after (Ok None) place = place
place_after (Err refusal) place = place

abbrev pub next_place : List ℕ → ℕ → ℕ
next_place cargo place = place_after (entry_at cargo place) place

-- an entry, and then the rest of the walk; any other answer ends it
abbrev pub goes_on : EntryAnswer → List EntryAnswer → List EntryAnswer
goes_on (Ok (Some entry)) rest = Ok (Some entry) ∷ rest
goes_on (Ok None) rest = []
goes_on (Err refusal) rest = []

abbrev pub ends_with : EntryAnswer → EntryAnswer → EntryAnswer
ends_with (Ok (Some entry)) rest = rest
ends_with (Ok None) rest = Ok None
ends_with (Err refusal) rest = Err refusal

-- the first `most` entries from a place on, and the answer behind them
abbrev pub entries_by : ℕ → List ℕ → ℕ → List EntryAnswer
entries_by zero cargo place = []
entries_by (suc most) cargo place = goes_on (entry_at cargo place) (entries_by most cargo (next_place cargo place))

abbrev pub end_by : ℕ → List ℕ → ℕ → EntryAnswer
end_by zero cargo place = Ok None
end_by (suc most) cargo place = ends_with (entry_at cargo place) (end_by most cargo (next_place cargo place))

-- the whole walk: a cargo has no more entries than bytes
abbrev pub entries_from : List ℕ → ℕ → List EntryAnswer
entries_from cargo place = entries_by (length cargo) cargo place

abbrev pub end_from : List ℕ → ℕ → EntryAnswer
end_from cargo place = end_by (length cargo) cargo place

-- its n-th answer: its n-th entry, and behind the last one the answer that ended it
abbrev pub walk_answer : List ℕ → ℕ → ℕ → EntryAnswer
walk_answer cargo place n = get_or (entries_from cargo place) n (end_from cargo place)
