-- A header that four bytes can say, and that is not null, is read back as it was written.
use Rattle.std.proofs.Common.{◌≡◌, ℕ, ◌+◌, ◌*◌, ◌/◌, ◌%◌, ◌≤◌, Bool, true, false, cond, leb, List, ◌++◌, length, drop, arith, le-ltb, ne_eqb, le-leb}
use borrow.Author.Tests.{lt-leb}
use Rattle.header.specs.declared.Header.{Header}
use Rattle.std.specs.Prelude.{Some, Ok}
use Rattle.header.specs.Header.{header_bytes, reading_of_bytes, reading_of, writing_of, header_written}

pub record Sayable (h : Header) : Type 0 where
  pub some : 1 ≤ h.length
  pub most : h.length ≤ 32767
  pub byte : h.channel ≤ 255

-- the length field of a written header
field_length : (l : ℕ) (more : Bool) → l ≤ 32767 → (l % 256 + (l / 256 + cond more 128 0) * 256) % 32768 ≡ l
field_length l true h = omega arith
field_length l false h = omega arith

field_more : (l : ℕ) (more : Bool) → l ≤ 32767 → leb 32768 (l % 256 + (l / 256 + cond more 128 0) * 256) ≡ more
field_more l true h = le-leb 32768 (l % 256 + (l / 256 + 128) * 256) (omega arith)
field_more l false h = lt-leb 32768 (l % 256 + (l / 256 + 0) * 256) (omega arith)

pub bytes_read : (h : Header) (rest : List ℕ) → Sayable h → reading_of (header_bytes h ++ rest) ≡ Ok (Some h)
unfolding reading_of reading_of_bytes
bytes_read h rest k =
    let a = field_length h.length h.continuation k.most in
    let b = field_more h.length h.continuation k.most in
    let s = k.some in
    simp (a, b, ne_eqb h.length 0 (omega arith), le-ltb (length (header_bytes h ++ rest)) 4 (omega arith))

pub written_read : (h : Header) (out : List ℕ) → Sayable h → 4 ≤ length out → reading_of (header_written h out) ≡ Ok (Some h)
unfolding header_written writing_of
written_read h out k room =
    let a = k.most in
    let b = k.byte in
    simp (le-ltb 32767 h.length (omega arith), le-ltb 255 h.channel (omega arith), le-ltb (length out) 4 room) (bytes_read h (drop 4 out) k)
