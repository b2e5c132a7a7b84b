-- Streams, computed: document 01's listing input; 31, and what follows; single flags, and what the reader of before makes of them.
use Prim.Native.Nat.{ℕ}
use mathlib.Core.Path.{◌≡◌, refl, sym, ap, ◌∙◌}
use mathlib.Core.List.{List, [], ◌∷◌, ◌++◌, flat_map}
use native.Mathlib.Omega.{arith}
use lib.ListN.{length}
use Rattle.refusals.specs.declared.Refusal.TheVariants.{Unsound, UnknownId, FlagAfterEscape, LongMessage}
use Rattle.reader.specs.declared.Phase.TheVariants.{Outside, Escaped}
use Rattle.reader.specs.declared.Event.TheVariants.{Refused}
use Rattle.reader.specs.Reader.{outside, opened, control, at_flag, message_of, at_byte, buffer_at, storing, stored, step_of, buffer_after}
use Rattle.messages.specs.Messages.{Said, transfer, query, notice, refused, onto, pieces, meant, hangs, control_said, said, judged, messages_of}
use Rattle.messages.specs.Tells.{heard, read_by}
use Rattle.messages.specs.Before.{flag_before, step_before, NoneEmpty, every_second, Doubled}
use Rattle.messages.proofs.Open.{never_outside, told_leaves_open}
use Rattle.messages.proofs.Before.{loses_every_second, same_where_doubled}

-- ---- the listing example of document 01: `7E 01 06 00 02 00 7D 5E 01 7E 7E 00 7E 7E 00 80 00 7E`, then the first ten bytes again

abbrev ten : List ℕ
ten = 126 ∷ 1 ∷ 6 ∷ 0 ∷ 2 ∷ 0 ∷ 125 ∷ 94 ∷ 1 ∷ 126 ∷ []

abbrev listing : List ℕ
listing = ten ++ (126 ∷ 0 ∷ 126 ∷ 126 ∷ 0 ∷ 128 ∷ 0 ∷ 126 ∷ ten)

abbrev six : List ℕ
six = 6 ∷ 0 ∷ 2 ∷ 0 ∷ 126 ∷ 1 ∷ []

abbrev listed : List Said
listed = transfer six ∷ query ∷ notice 128 ∷ transfer six ∷ []

pub listing_messages : messages_of 32767 listing ≡ listed
unfolding messages_of flat_map judged said control_said meant hangs pieces onto
listing_messages = refl

-- it comes out the same as before request 3
pub listing_before : (buf : List ℕ) → (read_by step_before outside listing buf).said ≡ messages_of (length buf) listing
unfolding pieces onto Doubled
listing_before buf = same_where_doubled listing buf tt

-- ---- `7E 00 7E 00 7E` is two queries; noise between two flags is a message: `7E 00 7E 42 7E 00 7E`

pub two_queries : messages_of 1 (126 ∷ 0 ∷ 126 ∷ 0 ∷ 126 ∷ []) ≡ query ∷ query ∷ []
unfolding messages_of flat_map judged said control_said meant hangs pieces onto
two_queries = refl

pub noise_told : messages_of 1 (126 ∷ 0 ∷ 126 ∷ 66 ∷ 126 ∷ 0 ∷ 126 ∷ []) ≡ query ∷ refused UnknownId ∷ query ∷ []
unfolding messages_of flat_map judged said control_said meant hangs pieces onto
noise_told = refl

-- ---- 31, and what follows: `7E 7D 7E 00 7E`; a 0x7D that is turned itself is a byte as any other: `7E 01 7D 7D 7E`

pub after_31 : messages_of 2 (126 ∷ 125 ∷ 126 ∷ 0 ∷ 126 ∷ []) ≡ refused FlagAfterEscape ∷ query ∷ []
unfolding messages_of flat_map judged said control_said meant hangs pieces onto
after_31 = refl

pub turned_7d : messages_of 2 (126 ∷ 1 ∷ 125 ∷ 125 ∷ 126 ∷ []) ≡ transfer (93 ∷ []) ∷ []
unfolding messages_of flat_map judged said control_said meant hangs pieces onto
turned_7d = refl

-- ---- without a flag the reader is outside still

pub still_outside : (read_by step_of outside (65 ∷ 125 ∷ []) (0 ∷ [])).reader.phase ≡ Outside
unfolding read_by step_of buffer_after at_byte buffer_at
still_outside = refl

-- a full buffer is sound; where one byte more is held than it has, 23 leaves all as it is, a flag too

pub full_opens : (step_of record { phase = Escaped; held = 1 } 126 (0 ∷ [])).reader ≡ opened
unfolding step_of at_flag
full_opens = told_leaves_open record { phase = Escaped; held = 1 } 126 (0 ∷ []) (omega arith) refl

pub full_inside : (read_by step_of record { phase = Outside; held = 1 } (126 ∷ []) (0 ∷ [])).reader.phase ≡ Outside → ⊥
full_inside = never_outside record { phase = Outside; held = 1 } [] [] (0 ∷ []) (omega arith)

pub unsound_stays : step_of record { phase = Outside; held = 2 } 126 (0 ∷ []) ≡ record { reader = record { phase = Outside; held = 2 }; event = Refused Unsound }
unfolding step_of
unsound_stays = refl

-- ---- at the edge of the buffer: two bytes fit two, and a 0x7D that turns nothing is none (`7E 01 41 7D 7E`); three are 32, whatever hangs

pub edge_fits : messages_of 2 (126 ∷ 1 ∷ 65 ∷ 125 ∷ 126 ∷ []) ≡ refused FlagAfterEscape ∷ []
unfolding messages_of flat_map judged said control_said meant hangs pieces onto
edge_fits = refl

pub edge_passed : messages_of 2 (126 ∷ 1 ∷ 65 ∷ 66 ∷ 125 ∷ 126 ∷ []) ≡ refused LongMessage ∷ []
unfolding messages_of flat_map judged said control_said meant hangs pieces onto
edge_passed = refl

-- ---- single flags: `42 7E 00 7E 01 2A 7E 00 00 01 7E 02 7E` is a query, a transfer, a notification and 30

abbrev singles : List ℕ
singles = 66 ∷ 126 ∷ 0 ∷ 126 ∷ 1 ∷ 42 ∷ 126 ∷ 0 ∷ 0 ∷ 1 ∷ 126 ∷ 2 ∷ 126 ∷ []

pub singles_told : messages_of 3 singles ≡ query ∷ transfer (42 ∷ []) ∷ notice 256 ∷ refused UnknownId ∷ []
unfolding messages_of flat_map judged said control_said meant hangs pieces onto
singles_told = refl

pub singles_before : (read_by step_before outside singles (0 ∷ 0 ∷ 0 ∷ [])).said ≡ query ∷ notice 256 ∷ []
unfolding read_by heard step_before flag_before buffer_after at_byte buffer_at storing stored message_of control
singles_before = refl

-- every second one
pub singles_lost : (read_by step_before outside singles (0 ∷ 0 ∷ 0 ∷ [])).said ≡ every_second (messages_of 3 singles)
unfolding pieces onto NoneEmpty
singles_lost = loses_every_second singles (0 ∷ 0 ∷ 0 ∷ []) tt

-- so that the reader of before does not tell the messages of a stream
pub before_refuted : ((stream buf : List ℕ) → (read_by step_before outside stream buf).said ≡ messages_of (length buf) stream) → ⊥
before_refuted same =
    let z : ◌≡◌ {A = ℕ} 2 4 = ap length (sym singles_before ∙ same singles (0 ∷ 0 ∷ 0 ∷ []) ∙ singles_told) in
    omega arith

-- ---- that no flag stands right behind another is needed: with two between them and more, `7E 7E 00 7E 7E 7E 00 7E 7E 00 7E`, all are told

abbrev doubles : List ℕ
doubles = 126 ∷ 126 ∷ 0 ∷ 126 ∷ 126 ∷ 126 ∷ 0 ∷ 126 ∷ 126 ∷ 0 ∷ 126 ∷ []

pub doubles_told : messages_of 1 doubles ≡ query ∷ query ∷ query ∷ []
unfolding messages_of flat_map judged said control_said meant hangs pieces onto
doubles_told = refl

pub doubles_before : (read_by step_before outside doubles (0 ∷ [])).said ≡ query ∷ query ∷ query ∷ []
unfolding pieces onto Doubled
doubles_before = same_where_doubled doubles (0 ∷ []) tt ∙ doubles_told
