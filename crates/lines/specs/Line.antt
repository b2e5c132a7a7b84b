-- The lines of the listing as bytes, and what writing one answers (document 01, the listing program).
use Rattle.std.specs.Prelude.{ℕ, List, [], ◌∷◌, ◌++◌, cond, ltb, length, drop, Option, None, Some, Result, Ok, Err}
use Rattle.refusals.specs.Number.{number_of}
use Rattle.listener.specs.declared.News.{News}
use Rattle.listener.specs.declared.News.TheVariants as news
use Rattle.refusals.specs.declared.Refusal.{Refusal}
use Rattle.refusals.specs.declared.Refusal.TheVariants.{ShortOutput}
use Rattle.fields.specs.declared.Event.{Event}
use Rattle.fields.specs.declared.Event.TheVariants.{Cargo, Part, Null, Query, Notice, Refused}
use Rattle.fields.specs.declared.Fields.{Fields}
use Rattle.lines.specs.Text.{bytes}
use Rattle.lines.specs.Decimal.{decimal}
use Rattle.fields.specs.Fields.{fields_of, plain_fields}

-- "fields parted by tabs", 9; a line ends with one line feed, 10
abbrev pub row : List ℕ → List (List ℕ) → List ℕ
row field [] = field ++ 10 ∷ []
row field (next ∷ rest) = field ++ 9 ∷ row next rest

-- "It writes a heading": event, channel, bytes, number, gap, dropped
abbrev pub heading : List ℕ
heading =
    row (bytes "event")
    (bytes "channel" ∷ bytes "bytes" ∷ bytes "number" ∷ bytes "gap" ∷ bytes "dropped" ∷ [])

-- "`cargo`, `part`, `null`, `query`, `notice` and `refused`"
abbrev pub name_of : Event → List ℕ
name_of Cargo = bytes "cargo"
name_of Part = bytes "part"
name_of Null = bytes "null"
name_of Query = bytes "query"
name_of Notice = bytes "notice"
name_of Refused = bytes "refused"

-- "Channel is `-` except": 45
abbrev pub or_dash : Option ℕ → List ℕ
or_dash None = bytes "-"
or_dash (Some n) = decimal n

-- a line, in the heading's order
abbrev pub text_of : Fields → List ℕ
text_of f =
    row (name_of f.event)
    (or_dash f.channel ∷ decimal f.bytes ∷ decimal f.number ∷ decimal f.gap
    ∷ decimal (cond f.dropped 1 0) ∷ [])

-- "a line for each closed non-empty message"; "An unclosed message gives no line."
abbrev pub line_of : News → List ℕ
line_of news.Nothing = []
line_of (news.Transfer channel held answer) = text_of (fields_of channel held answer)
line_of news.Query = text_of (plain_fields Query 0 0)
line_of (news.Notice room) = text_of (plain_fields Notice room 0)
line_of (news.Refused refusal) = text_of (plain_fields Refused 0 (number_of refusal))

-- 28: "output or row too short"; else how many bytes were written
unfoldable pub written : List ℕ → ℕ → Result ℕ Refusal
written text room = cond (ltb room (length text)) (Err ShortOutput) (Ok (length text))

-- a refusal leaves the output, and "Output bytes behind what is written stay"
unfoldable pub output_after : List ℕ → List ℕ → List ℕ
output_after text out = cond (ltb (length out) (length text)) out (text ++ drop (length text) out)
