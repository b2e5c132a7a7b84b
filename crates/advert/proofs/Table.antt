-- A table of tags whose search is right at every byte: by one test, which is computed at the rows of the source.
use Rattle.std.proofs.Common.{◌≡◌, ℕ, ◌<◌, Bool, true, eqb, List, refl, sym, ap, ◌∙◌}
use Rattle.std.specs.Prelude.{find, option_map, unwrap_or}
use Prim.Native.Nat.{zero, suc}
use borrow.Author.Tests.{eqb-true}
use Rattle.std.proofs.lemmas.Bool.{agree_below, agree_below_at}
use Rattle.advert.specs.Tags.{rule_in, rule_of}
use Rattle.advert.specs.declared.tags.Rule.{Rule}
use Rattle.advert.specs.declared.tags.Rule.TheVariants.{NotThere, AnyLength, OneLength}
use Rattle.advert.specs.declared.tags.TagRow.{TagRow}

-- a rule as a number, and back: so that two can be compared
abbrev code : Rule → ℕ
code NotThere = zero
code AnyLength = suc zero
code (OneLength n) = suc (suc n)

abbrev decode : ℕ → Rule
decode zero = NotThere
decode (suc zero) = AnyLength
decode (suc (suc n)) = OneLength n

decoded : (r : Rule) → decode (code r) ≡ r
decoded NotThere = refl
decoded AnyLength = refl
decoded (OneLength n) = refl

-- `rule_in`, open: so that the test computes
abbrev pub look : List TagRow → ℕ → Rule
look rows tag = unwrap_or (option_map (λ row. row.1) (find (λ row. eqb row.0 tag) rows)) NotThere

-- the test of a table: at this tag it says what `rule_of` says
abbrev pub right : List TagRow → ℕ → Bool
unfolding rule_of
right rows tag = eqb (code (look rows tag)) (code (rule_of tag))

-- the rule of a table that passes its test at all 256 tags
pub table_right : (rows : List TagRow) → agree_below (right rows) (λ tag. true) 256 ≡ true → (tag : ℕ) → tag < 256 → rule_in rows tag ≡ rule_of tag
unfolding rule_in rule_of
table_right rows all tag byte =
    let same = eqb-true (code (look rows tag)) (code (rule_of tag)) (agree_below_at (right rows) (λ tag. true) 256 tag all byte) in
    sym (decoded (look rows tag)) ∙ ap decode same ∙ decoded (rule_of tag)
