-- An entry, written (document 01, "Advertisement and error list", "Answer numbers").
use Rattle.std.specs.Prelude.{ℕ, ◌+◌, List, ◌∷◌, ◌++◌, cond, ltb, length, drop, Result, Ok, Err, is_ok}
use Rattle.refusals.specs.declared.Refusal.{Refusal}
use Rattle.refusals.specs.declared.Refusal.TheVariants.{ShortOutput, LongValue}

-- "Writing an entry checks 36, then 28.": a value of n bytes into an output of room bytes; how many bytes are written
unfoldable pub write_answer : ℕ → ℕ → Result ℕ Refusal
write_answer room n =
    cond (ltb 255 n) (Err LongValue)
    (cond (ltb room (n + 2)) (Err ShortOutput)
    (Ok (n + 2)))

-- "An entry is tag, length, value"
abbrev pub entry_bytes : ℕ → List ℕ → List ℕ
entry_bytes tag value = tag ∷ length value ∷ value

-- "Output bytes behind what is written stay"; a refusal leaves all of them
unfoldable pub entry_written : List ℕ → ℕ → List ℕ → List ℕ
entry_written out tag value =
    cond (is_ok (write_answer (length out) (length value)))
    (entry_bytes tag value ++ drop (length (entry_bytes tag value)) out)
    out
