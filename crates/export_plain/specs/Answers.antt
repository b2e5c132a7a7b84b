-- What numbers mean as a receiver's answer, as news and as the cargo under way: what `export` writes into a row. Every
-- row means something.
use Rattle.std.specs.Prelude.{ℕ, ◌%◌, cond, false, List, [], eqb, get_or, Option, None, Some}
use Rattle.verdict.specs.declared.answers.Answer.{Answer}
use Rattle.verdict.specs.declared.answers.Kind.{Kind}
use Rattle.verdict.specs.declared.answers.Kind.TheVariants.{Delivered, Part, Null, Refused}
use Rattle.verdict.specs.Answer.{tell, refusal}
use Rattle.joining.specs.declared.Cargo.{Cargo}
use Rattle.fields.specs.declared.Fields.{Fields}
use Rattle.fields.specs.declared.Event.TheVariants.{Part as Part-event, Query, Notice}
use Rattle.fields.specs.Fields.{told, fields_of as transfer_fields, plain_fields}
use Rattle.lines.specs.Line as says
use Rattle.export.specs.Fields.{flag_of, underway_of}

abbrev pub byte_of : (x : ℕ) → ℕ
byte_of x = x % 256

-- the kind (0 delivered, 1 part, 2 null, else refused), number, gap, whether a cargo was dropped,
-- and a delivered cargo's channel and length; what the kind does not tell is not read
unfoldable pub answer_of : (numbers : List ℕ) → Answer
answer_of n =
    let gap = byte_of (get_or n 2 0) in
    let dropped = flag_of (get_or n 3 0) in
    cond (eqb (get_or n 0 0) 0) (tell (Delivered (get_or n 4 0) (get_or n 5 0)) 0 gap dropped)
    (cond (eqb (get_or n 0 0) 1) (tell Part 0 gap dropped)
    (cond (eqb (get_or n 0 0) 2) (tell Null 0 0 false)
    (tell Refused (byte_of (get_or n 1 0)) gap dropped)))

abbrev pub underway_in : (numbers : List ℕ) → Option Cargo
underway_in n = underway_of (get_or n 0 0) (get_or n 1 0) (get_or n 2 0) (get_or n 3 0)

-- the line of a part tells the channel of the cargo under way and the bytes held; where there is none, `-` and 0
abbrev pub part_fields : (answer : Answer) → Option Cargo → Fields
part_fields answer None = told Part-event None 0 answer
part_fields answer (Some cargo) = transfer_fields cargo.channel cargo.held answer

abbrev pub kind_fields : (answer : Answer) (underway : Option Cargo) (channel : ℕ) → Kind → Fields
kind_fields answer underway channel (Delivered cargo's len) = transfer_fields channel 0 answer
kind_fields answer underway channel Part = part_fields answer underway
kind_fields answer underway channel Null = transfer_fields channel 0 answer
kind_fields answer underway channel Refused = transfer_fields channel 0 answer

abbrev pub fields_of : (answer : Answer) (underway : Option Cargo) (channel : ℕ) → Fields
fields_of answer underway channel = kind_fields answer underway channel answer.kind

-- news: 1 a receiver's answer, 2 a query, 3 a notice and its room, else refused and the number, which is told as the
-- receiver's, since 9, 20 and 21 tell a channel
unfoldable pub fields_in : (event value : ℕ) (answer : Answer) (underway : Option Cargo) (channel : ℕ) → Fields
fields_in event value answer underway channel =
    cond (eqb event 1) (fields_of answer underway channel)
    (cond (eqb event 2) (plain_fields Query 0 0)
    (cond (eqb event 3) (plain_fields Notice (value % 65536) 0)
    (transfer_fields channel 0 (refusal (byte_of value)))))

-- the line of such news, none for 0; a refusal's channel stands behind the ID and two bytes in the message buffer
unfoldable pub line_of : (news answer underway message : List ℕ) → List ℕ
line_of news answer underway message =
    let f = fields_in (get_or news 0 0) (get_or news 1 0) (answer_of answer) (underway_in underway) (get_or message 3 0) in
    cond (eqb (get_or news 0 0) 0) [] (says.text_of f)
