-- The places of a cargo: how much the transfer there carries, what is under way there, and the transfer itself.
use Prim.Native.Nat.{ℕ, ◌+◌, ◌-◌, ◌≤◌, ◌<◌, min}
use native.Mathlib.Omega.{arith}
use mathlib.Core.Bool.{cond, ◌&&◌}
use mathlib.Core.List.{List, ◌++◌}
use mathlib.Core.Path.{◌≡◌}
use lib.ListN.{length, take, drop, length-take, length-drop}
use lib.Dec.{ltb}
use borrow.Author.Tests.{lt-ltb, le-ltb}
use Rattle.header.specs.declared.Header.{Header}
use Rattle.header.specs.Header.{header_bytes}
use Rattle.std.specs.Prelude.{Option, None, Some}
use Rattle.joining.specs.declared.Cargo.{Cargo as Load}
use Rattle.sender.specs.Send.{size_of, underway_at}
use Rattle.link.specs.Run.{Cargo}

-- ---- how much a transfer carries of what is left

abbrev pub carry : ℕ → ℕ → ℕ
carry largest left = size_of largest left - 4

pub carry_is : (largest left : ℕ) → carry largest left ≡ min (largest - 4) left
unfolding size_of
carry_is largest left = omega arith

pub carry_le : (largest left : ℕ) → carry largest left ≤ left
carry_le largest left = omega (arith, carry_is largest left)

pub carry_some : (largest left : ℕ) → 5 ≤ largest → 1 ≤ left → 1 ≤ carry largest left
carry_some largest left h k = omega (arith, carry_is largest left)

-- ---- what is under way at place o of a cargo of m bytes

abbrev pub load : ℕ → ℕ → ℕ → Option Load
load channel m o = Some record { channel = channel; total = m; held = o }

unfoldable pub way_at : ℕ → ℕ → ℕ → Option Load
way_at channel m o = cond (ltb 0 o && ltb o m) (load channel m o) None

pub way_mid : (channel m o : ℕ) → 0 < o → o < m → way_at channel m o ≡ load channel m o
unfolding way_at
way_mid channel m o h k = simp (lt-ltb 0 o h, lt-ltb o m k)

pub way_end : (channel m o : ℕ) → 0 < o → m ≤ o → way_at channel m o ≡ None
unfolding way_at
way_end channel m o h k = simp (lt-ltb 0 o h, le-ltb o m k)

pub way_load : (channel m o : ℕ) → 0 < o → underway_at channel m o ≡ way_at channel m o
unfolding way_at underway_at
way_load channel m o h = simp (lt-ltb 0 o h)

-- the place after the transfer at place o
abbrev pub next : ℕ → Cargo → ℕ → ℕ
next largest x o = o + carry largest (length x.bytes - o)

pub next_le : (largest : ℕ) (x : Cargo) (o : ℕ) → o ≤ length x.bytes → next largest x o ≤ length x.bytes
next_le largest x o h = omega (arith, carry_le largest (length x.bytes - o))

pub next_more : (largest : ℕ) (x : Cargo) (o : ℕ) → 5 ≤ largest → o < length x.bytes → o < next largest x o
next_more largest x o h k = omega (arith, carry_some largest (length x.bytes - o) h (omega arith))

-- ---- the transfer there, with number q

abbrev pub header_at : Cargo → ℕ → ℕ → Header
header_at x o q = record { continuation = ltb 0 o; length = length x.bytes - o + 4; channel = x.channel; number = q }

abbrev pub body_at : ℕ → Cargo → ℕ → List ℕ
body_at largest x o = take (carry largest (length x.bytes - o)) (drop o x.bytes)

unfoldable pub transfer_of : ℕ → Cargo → ℕ → ℕ → List ℕ
transfer_of largest x o q = header_bytes (header_at x o q) ++ body_at largest x o

pub body_length : (largest : ℕ) (x : Cargo) (o : ℕ) → length (body_at largest x o) ≡ carry largest (length x.bytes - o)
body_length largest x o = simp (length-take, length-drop) (omega (arith, carry_le largest (length x.bytes - o)))

pub transfer_length : (largest : ℕ) (x : Cargo) (o q : ℕ) → length (transfer_of largest x o q) ≡ carry largest (length x.bytes - o) + 4
unfolding transfer_of
transfer_length largest x o q = omega (arith, body_length largest x o)
