-- What demand 3 needs of the rules J by which a continuation is joined, and L by which a repeat spares the cargo under way.
-- In this file and those above it S says that they are enough, R that the settings g lie in range, F that the sender takes the cargo x.
use Prim.Native.Nat.{ℕ, suc}
use mathlib.Core.Bool.{Bool, true, false}
use mathlib.Core.Path.{◌≡◌}
use lib.ListN.{length}
use Rattle.header.specs.declared.Header.{Header}
use Rattle.std.specs.Prelude.{Option, None, Some, is_some}
use Rattle.joining.specs.declared.Cargo.{Cargo as Load}
use Rattle.joining.specs.declared.joinings.Joining.{Joining}
use Rattle.joining.specs.Channel.{is_repeat, repeated, heard_of}
use Rattle.joining.specs.Joining.{unjoined, begin}
use Rattle.link.specs.Run.{Cargo, Hear}
use Rattle.link.specs.Rules.{Joins, Spares, place_by, receiving_by, own}
use Rattle.link.proofs.Places.{load, header_at}

-- of J: none after a loss, and its own; of L: the cargo on the repeat's own channel
pub record Enough (J : Joins) (L : Spares) : Type 0 where
  pub none_after_loss : (w : Load) (h : Header) (gap : ℕ) → J w h (suc gap) ≡ false
  pub joins_own : (x : Cargo) (o q : ℕ) → J record { channel = x.channel; total = length x.bytes; held = o } (header_at x o q) 0 ≡ true
  pub spares_none : (c : ℕ) → L c None ≡ None
  pub spares_own_lem : (c m o : ℕ) → L c (load c m o) ≡ load c m o

-- a continuation goes on with what is under way
abbrev pub joins_on : Joins → Option Load → Header → ℕ → Bool
joins_on J None h gap = false
joins_on J (Some w) h gap = J w h gap

-- the receiver of document 01, but for these two
abbrev pub hearing : Joins → Spares → Hear
hearing J L = receiving_by own J is_repeat L repeated heard_of

-- a new transfer placed: a first one, a continuation that is joined, and one that is not
module _ (J : Joins) (L : Spares) where
  abbrev pub placing : Option Load → Header → ℕ → Joining
  placing = place_by own J is_repeat L repeated heard_of

  pub first_place : (v : Option Load) (h : Header) (gap : ℕ) → h.continuation ≡ false → placing v h gap ≡ begin h (is_some v)
  unfolding place_by
  first_place None h gap e = simp e
  first_place (Some w) h gap e = simp e

  pub join_place : (w : Load) (h : Header) (gap : ℕ) → h.continuation ≡ true → J w h gap ≡ true
      → placing (Some w) h gap ≡ record { cargo = Some w; dropped = false }
  unfolding place_by
  join_place w h gap e j = simp (e, j)

  pub unjoined_place : (v : Option Load) (h : Header) (gap : ℕ) → h.continuation ≡ true → joins_on J v h gap ≡ false → placing v h gap ≡ unjoined (is_some v)
  unfolding place_by
  unjoined_place None h gap e j = simp e
  unjoined_place (Some w) h gap e j = simp (e, j)
