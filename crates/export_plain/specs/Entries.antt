-- What an entry's answers tell in numbers.
use Rattle.std.specs.Prelude.{ℕ, List, [], ◌∷◌, None, Some, Result, Ok, Err}
use Rattle.refusals.specs.declared.Refusal.{Refusal}
use Rattle.advert.specs.Entry.{EntryAnswer}
use Rattle.advert.specs.declared.tags.Mark.{Mark}
use Rattle.advert.specs.declared.tags.Mark.TheVariants.{Known, Unknown, OtherLength}

abbrev pub mark_number : Mark → ℕ
mark_number Known = 0
mark_number Unknown = 1
mark_number OtherLength = 2

-- the kind (0 an entry, 1 no more, 2 refused); then of an entry its tag, length, next place and mark
abbrev pub entry_numbers : EntryAnswer → List ℕ
entry_numbers (Ok (Some entry)) = 0 ∷ entry.tag ∷ entry.length ∷ entry.next ∷ mark_number entry.mark ∷ []
entry_numbers (Ok None) = 1 ∷ 0 ∷ 0 ∷ 0 ∷ 0 ∷ []
entry_numbers (Err refusal) = 2 ∷ 0 ∷ 0 ∷ 0 ∷ 0 ∷ []

-- how many bytes were written, none by a refusal
abbrev pub written_of : Result ℕ Refusal → ℕ
written_of (Ok n) = n
written_of (Err refusal) = 0
