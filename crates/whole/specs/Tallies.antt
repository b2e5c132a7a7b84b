-- A tally of nine numbers, modulo 2^64: how often each thing was told, then bytes.
use Rattle.std.specs.Prelude.{ℕ, ◌+◌, ◌%◌, ◌^◌, List, slice_index, slice_set}
use Rattle.verdict.specs.declared.answers.Kind.{Kind}
use Rattle.verdict.specs.declared.answers.Kind.TheVariants.{Delivered, Part, Null, Refused as Refused-kind}
use Rattle.reader.specs.declared.Event.{Event}
use Rattle.reader.specs.declared.Event.TheVariants as events
use Rattle.listener.specs.declared.News.{News}
use Rattle.listener.specs.declared.News.TheVariants.{Nothing, Transfer, Query, Notice, Refused}

-- a receiver's answer: 1 delivered, 2 part, 3 null, 4 refused
abbrev pub kind_place : Kind → ℕ
kind_place (Delivered channel len) = 1
kind_place Part = 2
kind_place Null = 3
kind_place Refused-kind = 4

abbrev pub cargo_bytes : Kind → ℕ
cargo_bytes (Delivered channel len) = len
cargo_bytes Part = 0
cargo_bytes Null = 0
cargo_bytes Refused-kind = 0

-- 0 nothing, then the receiver's answer; 5 query, 6 notice, 7 refused by the reader
abbrev pub news_place : News → ℕ
news_place Nothing = 0
news_place (Transfer channel held answer) = kind_place answer.kind
news_place Query = 5
news_place (Notice room) = 6
news_place (Refused refusal) = 7

abbrev pub news_bytes : News → ℕ
news_bytes Nothing = 0
news_bytes (Transfer channel held answer) = cargo_bytes answer.kind
news_bytes Query = 0
news_bytes (Notice room) = 0
news_bytes (Refused refusal) = 0

-- of a reader alone a message counts at 1, and its payload's bytes
abbrev pub event_place : Event → ℕ
event_place events.Nothing = 0
event_place (events.Message n) = 1
event_place events.Query = 5
event_place (events.Notice room) = 6
event_place (events.Refused refusal) = 7

abbrev pub payload_bytes : Event → ℕ
payload_bytes events.Nothing = 0
payload_bytes (events.Message n) = n
payload_bytes events.Query = 0
payload_bytes (events.Notice room) = 0
payload_bytes (events.Refused refusal) = 0

abbrev added : List ℕ → ℕ → ℕ → List ℕ
added tally place n = slice_set tally place ((slice_index tally place + n) % 2 ^ 64)

-- the last place counts bytes
abbrev pub counted : List ℕ → ℕ → ℕ → List ℕ
counted tally place bytes = added (added tally place 1) 8 bytes

abbrev pub news_counted : List ℕ → News → List ℕ
news_counted tally news = counted tally (news_place news) (news_bytes news)

abbrev pub event_counted : List ℕ → Event → List ℕ
event_counted tally event = counted tally (event_place event) (payload_bytes event)
