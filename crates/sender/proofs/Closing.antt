-- A call's answer and its output: refused, or a transfer written.
use Prim.Native.Nat.{ℕ, ◌≤◌, ◌-◌, ◌+◌}
use mathlib.Core.Path.{◌≡◌, refl, ◌∙◌}
use mathlib.Core.List.{List, ◌++◌}
use native.Mathlib.Omega.{arith}
use lib.ListN.{length, take, drop}
use lib.Seq.{paste, drop-append-add, drop-drop}
use borrow.Author.Tests.{le-ltb}
use Rattle.std.specs.Prelude.{Ok, Err}
use Rattle.refusals.specs.declared.Refusal.{Refusal}
use Rattle.header.specs.declared.Header.{Header}
use Rattle.header.specs.Header.{header_bytes, writing_of, header_written}
use Rattle.sender.specs.declared.Sender.{Sender}
use Rattle.sender.specs.declared.Next.{Next}
use Rattle.sender.specs.Send.{judge_send, size_at, next_of, out_after}
use Rattle.sender.proofs.Coming.{next_at, refused_next, taken_next, coming}

-- a header that four bytes can say is not refused
pub header_writes : (h : Header) (room : ℕ) → h.length ≤ 32767 → h.channel ≤ 255 → 4 ≤ room → writing_of h room ≡ Ok tt
unfolding writing_of
header_writes h room a b k = simp (le-ltb 32767 h.length a, le-ltb 255 h.channel b, le-ltb room 4 k)

-- a header stored: four bytes at the front
pub header_stored : (h : Header) (out x : List ℕ) → h.length ≤ 32767 → h.channel ≤ 255 → 4 ≤ length out → x ≡ header_written h out → x ≡ header_bytes h ++ drop 4 out
unfolding header_written
header_stored h out x a b k e = e ∙ simp (header_writes h (length out) a b k)

-- and a part of the cargo behind it
pub written_law : (h : Header) (out s x : List ℕ) (count : ℕ) → h.length ≤ 32767 → h.channel ≤ 255 → 4 ≤ length out → x ≡ header_written h out
    → paste x 4 s count ≡ header_bytes h ++ take count s ++ drop (4 + count) out
written_law h out s x count a b k e = rw (header_stored h out x a b k e, drop-append-add (header_bytes h) (drop 4 out) count, drop-drop count 4 out)

-- nothing is written where it is refused
pub refused_out : (s : Sender) (channel : ℕ) (cargo out : List ℕ) {r : Refusal} → Err r ≡ next_of s channel (length cargo) (length out)
    → out ≡ out_after s channel cargo out
unfolding out_after
refused_out s channel cargo out e = simp (refused_next s channel (length cargo) (length out) e)

-- a call of `send`, of the next transfer
module _ (s : Sender) (channel : ℕ) (cargo out : List ℕ) {x : Next} (e : Ok x ≡ next_of s channel (length cargo) (length out)) where
  pub passed : judge_send s channel (length cargo) (length out) ≡ Ok tt
  passed = (taken_next s channel (length cargo) (length out) e).passed

  pub parts : x ≡ next_at s channel (length cargo)
  parts = (taken_next s channel (length cargo) (length out) e).is

  pub four : 4 ≤ x.size
  four = rw parts (coming s channel (length cargo) (length out) passed refl refl).four

  pub few : length cargo ≤ 32762
  few = (coming s channel (length cargo) (length out) passed refl refl).few

  -- what `cut::write` asks
  pub fits : (x.header.length ≤ 32767) × (x.header.channel ≤ 255) × (x.from + (x.size - 4) ≤ length cargo) × (4 + (x.size - 4) ≤ length out)
  fits =
      let k = coming s channel (length cargo) (length out) passed refl refl in
      let a = k.below in
      let b = k.few in
      let c = k.four in
      let d = k.roomy in
      rw parts (omega arith, omega arith, k.carried, omega arith)

  pub sent_out : (o : List ℕ) → o ≡ header_bytes x.header ++ take (x.size - 4) (drop x.from cargo) ++ drop (4 + (x.size - 4)) out → o ≡ out_after s channel cargo out
  unfolding out_after
  sent_out o p =
      let c = (coming s channel (length cargo) (length out) passed refl refl).four in
      let n : 4 + (size_at s (length cargo) - 4) ≡ size_at s (length cargo) = omega arith in
      p ∙ rw parts (simp passed (rw n refl))
