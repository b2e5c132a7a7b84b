-- The error list (document 01, "Advertisement and error list"; 004, 5.1.2.1).
use Rattle.std.specs.Prelude.{ℕ, ◌+◌, ◌-◌, List, Bool, false, cond, not, leb, eqb, length, get_or, Option, None, Some, Result, Ok, Err}
use Rattle.errors.specs.declared.Code.{Code}
use Rattle.errors.specs.Meanings.{meaning_of}
use Rattle.refusals.specs.declared.Refusal.{Refusal}
use Rattle.refusals.specs.declared.Refusal.TheVariants.{NoErrorList}

-- "An error list is response byte 1 and codes": "another first byte, or none," is not one
unfoldable pub is_error_list : List ℕ → Bool
is_error_list cargo = cond (eqb (length cargo) 0) false (eqb (get_or cargo 0 0) 1)

abbrev pub code_count : List ℕ → ℕ
code_count cargo = length cargo - 1

-- "Reading tells how many codes there are"; 37, "not an error list"
unfoldable pub count_of : List ℕ → Result ℕ Refusal
count_of cargo =
    cond (not (is_error_list cargo)) (Err NoErrorList)
    (Ok (code_count cargo))

-- "a place at or past that number answers "no more"": places count from 0
unfoldable pub code_at : List ℕ → ℕ → Result (Option Code) Refusal
code_at cargo place =
    let code = get_or cargo (place + 1) 0 in
    cond (not (is_error_list cargo)) (Err NoErrorList)
    (cond (leb (code_count cargo) place) (Ok None)
    (Ok (Some (record { code = code; meaning = meaning_of code }))))
