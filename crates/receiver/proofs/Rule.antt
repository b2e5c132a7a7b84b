-- In a sound state, with a buffer that 24 lets pass, a continuation is joined by document 01's rule alone: the buffer has room.
use Prim.Native.Nat.{ℕ, ◌≤◌, ◌-◌}
use mathlib.Core.Path.{◌≡◌, refl, ◌∙◌, ap}
use mathlib.Core.Bool.{Bool, true, false, cond, ◌&&◌}
use native.Mathlib.Omega.{arith}
use lib.Dec.{eqb}
use borrow.Author.Tests.{le-leb}
use Rattle.laws.proofs.Tests.{and_unit}
use Rattle.header.specs.declared.Header.{Header}
use Rattle.verdict.specs.declared.Settings.{Settings}
use Rattle.std.specs.Prelude.{Some}
use Rattle.joining.specs.declared.Cargo.{Cargo}
use Rattle.joining.specs.declared.joinings.Joining.{Joining}
use Rattle.receiver.specs.State.{fits}
use Rattle.joining.specs.Joining.{unjoined, join}
use Rattle.receiver.proofs.Soundness.{cargo_fits}

pub join_by_rule : (g : Settings) (h : Header) (room gap : ℕ) (cargo : Cargo) → fits g (Some cargo) ≡ true → g.limit - 4 ≤ room
    → join h room gap cargo
    ≡ cond (eqb cargo.channel h.channel && eqb gap 0 && eqb (h.length - 4) (cargo.total - cargo.held))
    record { cargo = Some cargo; dropped = false } (unjoined true)
unfolding join
join_by_rule g h room gap cargo e roomy =
    let m = (cargo_fits g cargo e).most in
    let b = eqb cargo.channel h.channel && eqb gap 0 && eqb (h.length - 4) (cargo.total - cargo.held) in
    let y : Joining = record { cargo = Some cargo; dropped = false } in
    ap (λ (x : Bool). cond (b && x) y (unjoined true)) (le-leb cargo.total room (omega arith)) ∙ ap (λ (x : Bool). cond x y (unjoined true)) (and_unit b)

-- ---- that the buffer has room is needed: the last 4 of 8 bytes are joined where it has 8, and not where it has 7

abbrev last : Header
last = record { continuation = true; length = 8; channel = 0; number = 1 }

abbrev half : Cargo
half = record { channel = 0; total = 8; held = 4 }

pub with_room : join last 8 0 half ≡ record { cargo = Some half; dropped = false }
unfolding join
with_room = refl

pub without_room : join last 7 0 half ≡ unjoined true
unfolding join
without_room = refl
