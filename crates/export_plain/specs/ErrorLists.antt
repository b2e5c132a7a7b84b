-- What the error list's answers tell in numbers.
use Rattle.std.specs.Prelude.{ℕ, List, [], ◌∷◌, Option, None, Some, Result, Ok, Err}
use Rattle.refusals.specs.declared.Refusal.{Refusal}
use Rattle.errors.specs.declared.Code.{Code}
use Rattle.errors.specs.declared.meanings.Meaning.{Meaning}
use Rattle.errors.specs.declared.meanings.Meaning.TheVariants.{NoError, ReadCargoTooLong, WriteTooShort, LengthAboveMaximum, LengthWithinHeader, FirstFragmentUnsupported, ContinuationUnsupported, UnknownCommand, UnknownParameter, UnknownChannel, AdvertisementPending, WriteBeforeAdvertisement, ListTruncated, Unknown}

abbrev pub count_told : Result ℕ Refusal → ℕ
count_told (Ok count) = count
count_told (Err refusal) = 0

-- a meaning's line in 004's table of error codes, 13 for none
abbrev pub meaning_number : Meaning → ℕ
meaning_number NoError = 0
meaning_number ReadCargoTooLong = 1
meaning_number WriteTooShort = 2
meaning_number LengthAboveMaximum = 3
meaning_number LengthWithinHeader = 4
meaning_number FirstFragmentUnsupported = 5
meaning_number ContinuationUnsupported = 6
meaning_number UnknownCommand = 7
meaning_number UnknownParameter = 8
meaning_number UnknownChannel = 9
meaning_number AdvertisementPending = 10
meaning_number WriteBeforeAdvertisement = 11
meaning_number ListTruncated = 12
meaning_number Unknown = 13

-- the kind (0 a code, 1 no more, 2 refused); then of a code itself and its meaning
abbrev pub code_numbers : Result (Option Code) Refusal → List ℕ
code_numbers (Ok (Some found)) = 0 ∷ found.code ∷ meaning_number found.meaning ∷ []
code_numbers (Ok None) = 1 ∷ 0 ∷ 0 ∷ []
code_numbers (Err refusal) = 2 ∷ 0 ∷ 0 ∷ []
