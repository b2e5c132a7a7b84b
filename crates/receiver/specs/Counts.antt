-- The missing and repeat counts, copied and cleared (document 01, "The receiver").
use Rattle.std.specs.Prelude.{ℕ, ◌*◌, List, ◌++◌, map, Bool, true, false, cond, not, ltb, length, take, drop, Result, Ok, Err, is_ok}
use Rattle.joining.specs.declared.channels.Channel.{Channel}
use Rattle.receiver.specs.declared.Receiver.{Receiver}
use Rattle.refusals.specs.declared.Refusal.{Refusal}
use Rattle.refusals.specs.declared.Refusal.TheVariants.{Unsound, ShortOutput}
use Rattle.receiver.specs.State.{sound_receiver}

-- a channel's repeats, or its missing count
abbrev pub field_of : (repeats : Bool) (c : Channel) → ℕ
field_of repeats c = cond repeats c.repeats c.missing

-- "a row shorter than twice the channel count is refused with 28, after 23"
unfoldable pub copying : (r : Receiver) (room : ℕ) → Result Unit Refusal
copying r room =
    cond (not (sound_receiver r)) (Err Unsound)
    (cond (ltb room (2 * r.settings.count)) (Err ShortOutput)
    (Ok tt))

-- "first every channel's missing count, then every channel's repeats, later places unchanged"
unfoldable pub row_after : (r : Receiver) (row : List ℕ) → List ℕ
row_after r row =
    let count = r.settings.count in
    cond (is_ok (copying r (length row)))
    (take count (map (field_of false) r.channels) ++ take count (map (field_of true) r.channels)
    ++ drop (2 * count) row)
    row

-- "Clearing sets both to zero for all channels and touches nothing else"; 23 to an unsound state
abbrev pub cleared_channel : Channel → Channel
cleared_channel c = record { counter = c.counter; heard = c.heard; missing = 0; repeats = 0 }

unfoldable pub cleared : (r : Receiver) → Result Receiver Refusal
cleared r =
    cond (not (sound_receiver r)) (Err Unsound)
    (Ok record { settings = r.settings; channels = map cleared_channel r.channels; underway = r.underway })
