-- A sender's state (document 01, "The sender"): the fresh one, and the sound ones.
use Rattle.std.specs.Prelude.{ℕ, Bool, true, ◌&&◌, leb, replicate, Option, None, Some}
use Rattle.verdict.specs.declared.Settings.{Settings}
use Rattle.header.specs.Sequence.{fresh_counter}
use Rattle.joining.specs.declared.Cargo.{Cargo}
use Rattle.receiver.specs.State as receiver
use Rattle.sender.specs.declared.Sender.{Sender}

-- "bytes sent standing for bytes held and being at least 1"
unfoldable pub begun : Option Cargo → Bool
begun None = true
begun (Some cargo) = leb 1 cargo.held

-- "Settings as above plus a largest transfer T, 5 to limit. A state is sound by the same rule"
unfoldable pub sound : Settings → ℕ → Option Cargo → Bool
sound settings largest underway =
    receiver.sound settings underway && leb 5 largest && leb largest settings.limit && begun underway

abbrev pub sound_sender : Sender → Bool
sound_sender s = sound s.settings s.largest s.underway

-- "A fresh record keeps the settings given"; "both ends begin every channel at 0"
abbrev pub fresh_sender : Settings → ℕ → Sender
fresh_sender settings largest =
    record { settings = settings; largest = largest; counters = replicate 32 fresh_counter; underway = None }
