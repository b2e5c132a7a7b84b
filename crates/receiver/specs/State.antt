-- A receiver's state (document 01, "The receiver"): the fresh one, the sound ones, and one channel of it.
use Rattle.std.specs.Prelude.{ℕ, ◌-◌, Bool, true, ◌&&◌, ltb, leb, get_or, set, replicate, Option, None, Some}
use Rattle.verdict.specs.declared.Settings.{Settings}
use Rattle.joining.specs.declared.Cargo.{Cargo}
use Rattle.joining.specs.declared.channels.Channel.{Channel}
use Rattle.joining.specs.Channel.{fresh_channel}
use Rattle.receiver.specs.declared.Receiver.{Receiver}

-- "Settings: limit, 5 to 32,766, the largest L; channel count, 1 to 32."
unfoldable pub in_range : Settings → Bool
in_range settings =
    leb 5 settings.limit && leb settings.limit 32766 && leb 1 settings.count && leb settings.count 32

-- "with a cargo under way, its channel is below the count, its total is 1 to limit-4 and fewer bytes than the total are
-- held"
unfoldable pub fits : Settings → Option Cargo → Bool
fits settings None = true
fits settings (Some cargo) =
    ltb cargo.channel settings.count && leb 1 cargo.total && leb cargo.total (settings.limit - 4)
    && ltb cargo.held cargo.total

-- the settings and what is under way: the sender's rule too
unfoldable pub sound : Settings → Option Cargo → Bool
sound settings underway = in_range settings && fits settings underway

abbrev pub sound_receiver : Receiver → Bool
sound_receiver r = sound r.settings r.underway

-- "A fresh record keeps the settings given"
abbrev pub fresh_receiver : Settings → Receiver
fresh_receiver settings = record { settings = settings; channels = replicate 32 fresh_channel; underway = None }

-- a channel of it: read, and replaced together with the cargo under way
abbrev pub channel_at : (r : Receiver) (i : ℕ) → Channel
channel_at r i = get_or r.channels i fresh_channel

abbrev pub with_channel : (r : Receiver) (i : ℕ) (c : Channel) (underway : Option Cargo) → Receiver
with_channel r i c underway =
    record { settings = r.settings; channels = set r.channels i c; underway = underway }
