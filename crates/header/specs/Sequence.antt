-- Sequence numbers (document 01, "Sequence numbers").
use Rattle.std.specs.Prelude.{ℕ, ◌+◌, ◌-◌, ◌%◌}
use Rattle.header.specs.declared.sequence.Counter.{Counter}

-- "both ends begin every channel at 0"
abbrev pub fresh_counter : Counter
fresh_counter = record { next = 0 }

-- "They step by one for each transfer, 255 being followed by 0."
abbrev pub stepped : Counter → Counter
stepped c = record { next = (c.next + 1) % 256 }

-- "The gap is (number received - number expected) modulo 256."
abbrev pub gap_of : ℕ → ℕ → ℕ
gap_of received expected = (received + 256 - expected) % 256
