-- One channel of a receiver (document 01, "The receiver").
use Rattle.std.specs.Prelude.{ℕ, ◌+◌, ◌%◌, ◌^◌, Bool, true, false, ◌&&◌, ◌==◌}
use Rattle.header.specs.Sequence.{fresh_counter, stepped}
use Rattle.joining.specs.declared.channels.Channel.{Channel}

-- no number was heard, "both ends begin every channel at 0"
abbrev pub fresh_channel : Channel
fresh_channel = record { counter = fresh_counter; heard = false; missing = 0; repeats = 0 }

-- 20: "channel heard before and number equals its last", which is the one before the expected: a gap of 255
unfoldable pub is_repeat : Channel → (gap : ℕ) → Bool
is_repeat channel gap = channel.heard && gap == 255

-- "repeat count + 1", "modulo 4,294,967,296"
abbrev pub repeated : Channel → Channel
repeated channel =
    record {
      counter = channel.counter;
      heard = channel.heard;
      missing = channel.missing;
      repeats = (channel.repeats + 1) % 2 ^ 32;
    }

-- "The gap is added to the channel's missing count, and the number expected becomes the received one plus 1."
abbrev pub heard_of : Channel → (number gap : ℕ) → Channel
heard_of channel number gap =
    record {
      counter = stepped record { next = number };
      heard = true;
      missing = (channel.missing + gap) % 2 ^ 32;
      repeats = channel.repeats;
    }
