-- What a header read tells in numbers.
use Rattle.std.specs.Prelude.{ℕ, Bool, List, [], ◌∷◌, Option, None, Some, Result, Ok, Err}
use Rattle.refusals.specs.declared.Refusal.{Refusal}
use Rattle.header.specs.declared.Header.{Header}
use Rattle.export.specs.Fields.{flag_number}

-- whether it is a continuation, L, channel and number
abbrev pub header_numbers : Header → List ℕ
header_numbers h = flag_number h.continuation ∷ h.length ∷ h.channel ∷ h.number ∷ []

-- an L of 0 says that the header is null, or that there is none
abbrev pub reading_numbers : Result (Option Header) Refusal → List ℕ
reading_numbers (Ok (Some h)) = header_numbers h
reading_numbers (Ok None) = 0 ∷ 0 ∷ 0 ∷ 0 ∷ []
reading_numbers (Err refusal) = 0 ∷ 0 ∷ 0 ∷ 0 ∷ []

abbrev pub header_of : Bool → ℕ → ℕ → ℕ → Header
header_of continuation length channel number =
    record { continuation = continuation; length = length; channel = channel; number = number }
