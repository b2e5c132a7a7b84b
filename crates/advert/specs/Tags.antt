-- The known tags and the lengths of their values (004, 5.2 and 5.3, the two figures of tags).
use Rattle.std.specs.Prelude.{ℕ, cond, ◌&&◌, leb, eqb, List, find, option_map, unwrap_or}
use Rattle.advert.specs.declared.tags.Rule.{Rule}
use Rattle.advert.specs.declared.tags.Rule.TheVariants.{NotThere, AnyLength, OneLength}
use Rattle.advert.specs.declared.tags.TagRow.{TagRow}
use Rattle.advert.specs.declared.tags.Mark.{Mark}
use Rattle.advert.specs.declared.tags.Mark.TheVariants.{Known, Unknown, OtherLength}

-- The global tags are 1 to 9, 0 being reserved; the SHTP's are 0x80, a version's text, and 0x81, "a 32-bit unsigned
-- integer". "A tag is judged by its number alone, and where 004 gives no fixed length every length fits"
unfoldable pub rule_of : ℕ → Rule
rule_of tag =
    cond (leb 1 tag && leb tag 9) AnyLength
    (cond (eqb tag 128) AnyLength
    (cond (eqb tag 129) (OneLength 4)
    NotThere))

-- "A small table from 004's two tag figures, searched by tag": a tag's rule is that of the first row that has it
unfoldable pub rule_in : List TagRow → ℕ → Rule
rule_in rows tag = unwrap_or (option_map (λ row. row.1) (find (λ row. eqb row.0 tag) rows)) NotThere

-- "an unknown tag, or a known one with another length, is marked so and passed on"
abbrev pub mark_by : Rule → ℕ → Mark
mark_by NotThere n = Unknown
mark_by AnyLength n = Known
mark_by (OneLength fixed) n = cond (eqb n fixed) Known OtherLength

abbrev pub mark_of : ℕ → ℕ → Mark
mark_of tag n = mark_by (rule_of tag) n
