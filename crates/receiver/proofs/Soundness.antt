-- What a sound state shows.
use Prim.Native.Nat.{◌≤◌, ◌<◌, ◌-◌}
use mathlib.Core.Path.{◌≡◌}
use mathlib.Core.Bool.{true, ◌&&◌}
use lib.Dec.{ltb, leb}
use borrow.Author.Tests.{ltb-true, leb-true}
use Rattle.laws.proofs.Tests.{and-true}
use Rattle.verdict.specs.declared.Settings.{Settings}
use Rattle.std.specs.Prelude.{Option, Some}
use Rattle.joining.specs.declared.Cargo.{Cargo}
use Rattle.receiver.specs.State.{in_range, fits, sound}

pub record InRange (g : Settings) : Type 0 where
  pub low : 5 ≤ g.limit
  pub high : g.limit ≤ 32766
  pub some : 1 ≤ g.count
  pub few : g.count ≤ 32

pub in_range_lem : (g : Settings) → in_range g ≡ true → InRange g
unfolding in_range
in_range_lem g e =
    let p = and-true (leb 5 g.limit && leb g.limit 32766 && leb 1 g.count) _ e in
    let q = and-true (leb 5 g.limit && leb g.limit 32766) _ p.0 in
    let s = and-true (leb 5 g.limit) _ q.0 in
    record { low = leb-true _ _ s.0; high = leb-true _ _ s.1; some = leb-true _ _ q.1; few = leb-true _ _ p.1 }

pub record Fits (g : Settings) (cargo : Cargo) : Type 0 where
  pub on : cargo.channel < g.count
  pub some : 1 ≤ cargo.total
  pub most : cargo.total ≤ g.limit - 4
  pub less : cargo.held < cargo.total

pub cargo_fits : (g : Settings) (cargo : Cargo) → fits g (Some cargo) ≡ true → Fits g cargo
unfolding fits
cargo_fits g cargo e =
    let p = and-true (ltb cargo.channel g.count && leb 1 cargo.total && leb cargo.total (g.limit - 4)) _ e in
    let q = and-true (ltb cargo.channel g.count && leb 1 cargo.total) _ p.0 in
    let s = and-true (ltb cargo.channel g.count) _ q.0 in
    record { on = ltb-true _ _ s.0; some = leb-true _ _ s.1; most = leb-true _ _ q.1; less = ltb-true _ _ p.1 }

pub is_sound : (g : Settings) (underway : Option Cargo) → sound g underway ≡ true → InRange g
unfolding sound
is_sound g underway e = in_range_lem g (and-true (in_range g) _ e).0
