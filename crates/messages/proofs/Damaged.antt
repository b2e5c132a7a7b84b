-- Damage, computed: what comes from between may be false; why both ends are flags; what the reader of before makes of it.
use Prim.Native.Nat.{ℕ}
use mathlib.Core.Path.{◌≡◌, refl, ap}
use mathlib.Core.List.{List, [], ◌∷◌, flat_map}
use mathlib.Core.Bool.{false}
use native.Mathlib.Omega.{arith}
use lib.ListN.{length, take, replicate}
use Rattle.header.specs.Header.{reading_of, reading_of_bytes}
use Rattle.receiver.specs.State.{in_range, fits, sound, fresh_receiver}
use Rattle.verdict.specs.Judge.{settings_of, judge, judge_reading, judge_header}
use Rattle.verdict.specs.declared.answers.Kind.TheVariants.{Delivered}
use Rattle.verdict.specs.Answer.{tell}
use Rattle.joining.specs.Channel.{is_repeat}
use Rattle.joining.specs.Joining.{place, carried_of}
use Rattle.step.specs.Step.{ended, go_on, step_of as step_of_receiver}
use Rattle.receiver.specs.Take.{step_on, receive, cargo_after}
use Rattle.reader.specs.declared.Phase.TheVariants.{Inside}
use Rattle.reader.specs.declared.Reader.{Reader}
use Rattle.reader.specs.Reader.{outside, control, message_of, at_flag, at_byte, buffer_at, storing, stored, step_of, buffer_after}
use Rattle.refusals.specs.Number as numbers
use Rattle.messages.specs.Messages.{Said, transfer, query, notice, refused, onto, pieces, meant, hangs, control_said, said, judged, messages_of}
use Rattle.messages.specs.Tells.{heard, read_by}
use Rattle.messages.specs.Before.{flag_before, step_before}
use Rattle.messages.specs.Damage.{chosen, parts_by, Same, StaysBy}
use Rattle.messages.proofs.Damage.{damage_stays}

-- ---- between a query and a notification `01 06 00 02 00 7D 5E 01` was sent, and `01 06 00 02 00 41 01` comes

abbrev sent : List ℕ
sent = 1 ∷ 6 ∷ 0 ∷ 2 ∷ 0 ∷ 125 ∷ 94 ∷ 1 ∷ []

abbrev noise : List ℕ
noise = 1 ∷ 6 ∷ 0 ∷ 2 ∷ 0 ∷ 65 ∷ 1 ∷ []

abbrev six : List ℕ
six = 6 ∷ 0 ∷ 2 ∷ 0 ∷ 126 ∷ 1 ∷ []

abbrev false_six : List ℕ
false_six = 6 ∷ 0 ∷ 2 ∷ 0 ∷ 65 ∷ 1 ∷ []

pub was_sent : messages_of 7 (chosen (126 ∷ 0 ∷ []) sent (0 ∷ 128 ∷ 0 ∷ 126 ∷ [])) ≡ query ∷ transfer six ∷ notice 128 ∷ []
unfolding messages_of flat_map judged said control_said meant hangs pieces onto
was_sent = refl

pub is_false : messages_of 7 (chosen (126 ∷ 0 ∷ []) noise (0 ∷ 128 ∷ 0 ∷ 126 ∷ [])) ≡ query ∷ transfer false_six ∷ notice 128 ∷ []
unfolding messages_of flat_map judged said control_said meant hangs pieces onto
is_false = refl

-- and a fresh receiver delivers it: channel 2, the bytes 41 01

pub false_delivered : (receive (fresh_receiver (settings_of 32766 32)) false_six 32762).answer ≡ tell (Delivered 2 2) 0 0 false
unfolding reading_of reading_of_bytes in_range fits sound judge judge_reading judge_header is_repeat carried_of place ended go_on step_of_receiver step_on
false_delivered = refl

pub its_bytes : take 2 (cargo_after (fresh_receiver (settings_of 10 32)) false_six (replicate 6 0)) ≡ 65 ∷ 1 ∷ []
unfolding reading_of reading_of_bytes in_range fits sound judge judge_reading judge_header is_repeat carried_of place ended go_on step_of_receiver step_on
its_bytes = refl

-- ---- both ends are flags, and what stands outside them stays as it is

number_of : List Said → ℕ
number_of [] = 0
number_of (transfer payload ∷ xs) = 0
number_of (query ∷ xs) = 0
number_of (notice room ∷ xs) = 0
number_of (refused refusal ∷ xs) = numbers.number_of refusal

-- the byte before the first is changed too, `7E 00 7E 7E` to `7E 42 7E 7E`: the query before it is gone
pub byte_before : Same (parts_by step_of outside (126 ∷ 0 ∷ []) [] [] (0 ∷ [])) (parts_by step_of outside (126 ∷ 66 ∷ []) [] [] (0 ∷ [])) → ⊥
unfolding read_by heard step_of buffer_after at_flag at_byte buffer_at storing stored message_of control number_of
byte_before same = let z : ◌≡◌ {A = ℕ} 30 0 = ap number_of same.before in omega arith

-- the byte behind the second is, `7E 7E 00 7E` to `7E 7E 42 7E`: the query after it is gone
pub byte_behind : Same (parts_by step_of outside [] [] (0 ∷ 126 ∷ []) (0 ∷ [])) (parts_by step_of outside [] [] (66 ∷ 126 ∷ []) (0 ∷ [])) → ⊥
unfolding read_by heard step_of buffer_after at_flag at_byte buffer_at storing stored message_of control number_of
byte_behind same = let z : ◌≡◌ {A = ℕ} 30 0 = ap number_of same.after in omega arith

-- the second flag itself is hit, `7E 00 7E 00 7E` to `7E 00 41 00 7E`: the query after it is gone, and a notification told that nobody sent
pub flag_hit : (messages_of 3 (chosen [] (0 ∷ []) (0 ∷ 126 ∷ [])) ≡ query ∷ query ∷ []) × (messages_of 3 (126 ∷ 0 ∷ 65 ∷ 0 ∷ 126 ∷ []) ≡ notice 65 ∷ [])
unfolding messages_of flat_map judged said control_said meant hangs pieces onto
flag_hit = (refl, refl)

-- ---- the message buffers are of one size: in two bytes `7E 01 41 7E` is a transfer, whatever they hold, in a single one it is 32

pub same_size : Same (parts_by step_of outside (126 ∷ 1 ∷ 65 ∷ []) [] [] (0 ∷ 0 ∷ [])) (parts_by step_of outside (126 ∷ 1 ∷ 65 ∷ []) (125 ∷ []) [] (7 ∷ 8 ∷ []))
same_size = damage_stays outside (126 ∷ 1 ∷ 65 ∷ []) [] (125 ∷ []) [] (0 ∷ 0 ∷ []) (7 ∷ 8 ∷ []) record { size = refl; held = refl }

pub other_size : Same (parts_by step_of outside (126 ∷ 1 ∷ 65 ∷ []) [] [] (0 ∷ 0 ∷ [])) (parts_by step_of outside (126 ∷ 1 ∷ 65 ∷ []) (125 ∷ []) [] (7 ∷ [])) → ⊥
unfolding read_by heard step_of buffer_after at_flag at_byte buffer_at storing stored message_of control number_of
other_size same = let z : ◌≡◌ {A = ℕ} 32 0 = ap number_of same.before in omega arith

-- and what the reader holds is the same in both: with the ID held, `41 7E` ends a transfer; with another ID it is 30

abbrev held_one : Reader
held_one = record { phase = Inside; held = 1 }

pub same_held : Same (parts_by step_of held_one (65 ∷ []) [] [] (1 ∷ 0 ∷ [])) (parts_by step_of held_one (65 ∷ []) (125 ∷ []) [] (1 ∷ 8 ∷ []))
same_held = damage_stays held_one (65 ∷ []) [] (125 ∷ []) [] (1 ∷ 0 ∷ []) (1 ∷ 8 ∷ []) record { size = refl; held = refl }

pub other_held : Same (parts_by step_of held_one (65 ∷ []) [] [] (1 ∷ 0 ∷ [])) (parts_by step_of held_one (65 ∷ []) (125 ∷ []) [] (2 ∷ 0 ∷ [])) → ⊥
unfolding read_by heard step_of buffer_after at_flag at_byte buffer_at storing stored message_of control number_of
other_held same = let z : ◌≡◌ {A = ℕ} 30 0 = ap number_of same.before in omega arith

-- ---- the reader of before lets damage out: with nothing between the flags in the place of `00`, it tells another thing of `00 7E` behind them

pub damage_got_out : StaysBy step_before → ⊥
unfolding read_by heard step_before flag_before buffer_after at_byte buffer_at storing stored message_of control
damage_got_out stays =
    let same = stays outside [] (0 ∷ []) [] (0 ∷ 126 ∷ []) (0 ∷ []) (0 ∷ []) record { size = refl; held = refl } in
    let z : ◌≡◌ {A = ℕ} 1 0 = ap length same.after in
    omega arith
