-- The tests that come before a channel's counter is asked
-- (document 01, "The receiver": "Order for each transfer: 23, 24, 2, null, 22, 4, 3, 9, 20, then").
use Rattle.std.specs.Prelude.{ℕ, ◌-◌, List, Bool, false, cond, not, ltb, leb, eqb, Option, None, Some, Result, Ok, Err}
use Rattle.refusals.specs.declared.Refusal.{Refusal}
use Rattle.refusals.specs.declared.Refusal.TheVariants.{Unsound, ShortCargoBuffer, LengthOfOnes, HeaderAlone, LongTransfer, NoSuchChannel}
use Rattle.header.specs.declared.Header.{Header}
use Rattle.header.specs.Header.{reading_of}
use Rattle.verdict.specs.declared.Settings.{Settings}
use Rattle.verdict.specs.declared.answers.Answer.{Answer}
use Rattle.verdict.specs.declared.answers.Kind.TheVariants.{Null}
use Rattle.verdict.specs.Answer.{tell, refused}

abbrev pub settings_of : (limit count : ℕ) → Settings
settings_of limit count = record { limit = limit; count = count }

-- 22, 4, 3, 9, or go on with this header
unfoldable pub judge_header : Settings → Header → Result Header Refusal
judge_header settings h =
    cond (eqb h.length 32767) (Err LengthOfOnes)
    (cond (leb h.length 4) (Err HeaderAlone)
    (cond (ltb settings.limit h.length) (Err LongTransfer)
    (cond (leb settings.count h.channel) (Err NoSuchChannel)
    (Ok h))))

-- the header to go on with, or the answer to a transfer that is refused
abbrev pub answered : Result Header Refusal → Result Header Answer
answered (Ok h) = Ok h
answered (Err r) = Err (refused r)

-- 2, null, and the header's
unfoldable pub judge_reading : Settings → Result (Option Header) Refusal → Result Header Answer
judge_reading settings (Err r) = Err (refused r)
judge_reading settings (Ok None) = Err (tell Null 0 0 false)
judge_reading settings (Ok (Some h)) = answered (judge_header settings h)

-- 24: "cargo buffer under limit-4"
abbrev pub too_short : Settings → (room : ℕ) → Bool
too_short settings room = ltb room (settings.limit - 4)

-- 23, 24, and the transfer's, where the cargo buffer has room bytes
unfoldable pub judge : (sound : Bool) (settings : Settings) (transfer : List ℕ) (room : ℕ) → Result Header Answer
judge sound settings transfer room =
    cond (not sound) (Err (refused Unsound))
    (cond (too_short settings room) (Err (refused ShortCargoBuffer))
    (judge_reading settings (reading_of transfer)))
