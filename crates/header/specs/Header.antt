-- The four header bytes of a transfer (document 01, "Header and length"; 004, 2.2.1).
use Rattle.std.specs.Prelude.{ℕ, ◌+◌, ◌*◌, ◌/◌, ◌%◌, cond, List, [], ◌∷◌, ◌++◌, length, drop, ◌==◌, nat_le, nat_lt, slice_index, Option, None, Some, Result, Ok, Err, is_ok}
use Rattle.header.specs.declared.Header.{Header}
use Rattle.refusals.specs.declared.Refusal.{Refusal}
use Rattle.refusals.specs.declared.Refusal.TheVariants.{ShortTransfer, LongTransfer, NoSuchChannel, ShortOutput}

-- "Bytes: length low, length high": the length field
abbrev pub field_of : ℕ → ℕ → ℕ
field_of low high = low + high * 256

-- "channel, sequence number. Bit 15 of the length field marks a continuation. Bits 14 to 0 are the length L"
abbrev pub header_of : ℕ → ℕ → ℕ → ℕ → Header
header_of low high channel number =
    record {
      continuation = nat_le 32768 (field_of low high);
      length = field_of low high % 32768;
      channel = channel;
      number = number;
    }

-- "L = 0 is a null header, bit 15 and later bytes being ignored."
unfoldable pub reading_of_bytes : ℕ → ℕ → ℕ → ℕ → Option Header
reading_of_bytes low high channel number =
    cond (field_of low high % 32768 == 0) None (Some (header_of low high channel number))

-- the first four bytes of a transfer, where it has four
unfoldable pub reading_of : List ℕ → Result (Option Header) Refusal
reading_of t =
    cond (nat_lt (length t) 4) (Err ShortTransfer)
    (Ok (reading_of_bytes (slice_index t 0) (slice_index t 1) (slice_index t 2) (slice_index t 3)))

-- the same four bytes, written
abbrev pub header_bytes : Header → List ℕ
header_bytes h = h.length % 256 ∷ (h.length / 256 + cond h.continuation 128 0) ∷ h.channel ∷ h.number ∷ []

-- four bytes cannot say an L above 32,767 (3) or a channel above 255 (9); 28 where the output has fewer than four
unfoldable pub writing_of : Header → ℕ → Result Unit Refusal
writing_of h room =
    cond (nat_lt 32767 h.length) (Err LongTransfer)
    (cond (nat_lt 255 h.channel) (Err NoSuchChannel)
    (cond (nat_lt room 4) (Err ShortOutput)
    (Ok tt)))

-- a refused header leaves the output as it was, a written one stands at its front
unfoldable pub header_written : Header → List ℕ → List ℕ
header_written h out = cond (is_ok (writing_of h (length out))) (header_bytes h ++ drop 4 out) out
