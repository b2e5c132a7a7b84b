-- What a sound sender shows, and a cargo that is sent.
use Prim.Native.Nat.{ℕ, ◌≤◌, ◌<◌, ◌-◌, ◌+◌}
use mathlib.Core.Path.{◌≡◌}
use mathlib.Core.Bool.{true, false, not, ◌&&◌}
use native.Mathlib.Omega.{arith}
use lib.Dec.{ltb, leb, eqb}
use borrow.Author.Tests.{ltb-false, leb-true, leb-false, eqb-true, eqb-false, not-false}
use Rattle.verdict.specs.declared.Settings.{Settings}
use Rattle.laws.proofs.Tests.{no_ok, skip, and-true}
use Rattle.std.specs.Prelude.{Option, None, Some, Ok}
use Rattle.refusals.specs.declared.Refusal.TheVariants.{Unsound, NoSuchChannel, EmptyCargo, LongCargo, OtherUnderWay, ShortOutput}
use Rattle.joining.specs.declared.Cargo.{Cargo}
use Rattle.receiver.specs.State as receiver
use Rattle.joining.specs.Joining.{held_of}
use Rattle.receiver.proofs.Soundness.{InRange, in_range_lem, cargo_fits}
use Rattle.sender.specs.State.{sound}
use Rattle.sender.specs.Send.{size_of, differs, judge}

abbrev pub total_of : Option Cargo → ℕ
total_of None = 0
total_of (Some cargo) = cargo.total

within : (settings : Settings) (underway : Option Cargo) → receiver.fits settings underway ≡ true → held_of underway ≤ total_of underway
within settings None e = omega arith
within settings (Some cargo) e = let l = (cargo_fits settings cargo e).less in omega arith

pub record Fit (settings : Settings) (largest : ℕ) (underway : Option Cargo) : Type 0 where
  pub range : InRange settings
  pub less : held_of underway ≤ total_of underway
  pub five : 5 ≤ largest
  pub most : largest ≤ settings.limit

pub fit : (settings : Settings) (largest : ℕ) (underway : Option Cargo) → sound settings largest underway ≡ true → Fit settings largest underway
unfolding sound receiver.sound
fit settings largest underway e =
    let p = and-true (receiver.sound settings underway && leb 5 largest && leb largest settings.limit) _ e in
    let q = and-true (receiver.sound settings underway && leb 5 largest) _ p.0 in
    let s = and-true (receiver.sound settings underway) _ q.0 in
    let r = and-true (receiver.in_range settings) _ s.0 in
    record { range = in_range_lem _ r.0; less = within _ _ r.1; five = leb-true _ _ s.1; most = leb-true _ _ q.1 }

-- no more bytes than the cargo's are sent, where it is the one under way
pub sent_less : (underway : Option Cargo) (channel m : ℕ) → held_of underway ≤ total_of underway → differs underway channel m ≡ false → held_of underway ≤ m
unfolding differs
sent_less None channel m h e = omega arith
sent_less (Some cargo) channel m h e =
    let q = eqb-true cargo.total m (and-true (eqb cargo.channel channel) _ (not-false _ e)).1 in
    omega arith

pub record Ready (settings : Settings) (largest : ℕ) (underway : Option Cargo) (channel m room : ℕ) : Type 0 where
  pub fits : Fit settings largest underway
  pub below : channel < settings.count
  pub some : 1 ≤ m
  pub short : m ≤ settings.limit - 4
  pub less : held_of underway ≤ m
  pub roomy : size_of largest (m - held_of underway) ≤ room

pub ready : (settings : Settings) (largest : ℕ) (underway : Option Cargo) (channel m room : ℕ) → judge settings largest underway channel m room ≡ Ok tt
    → Ready settings largest underway channel m room
unfolding judge
ready settings largest underway channel m room e =
    let a = skip (not (sound settings largest underway)) _ _ (Ok tt) (no_ok Unsound tt) e in
    let b = skip (leb settings.count channel) _ _ (Ok tt) (no_ok NoSuchChannel tt) a.1 in
    let d = skip (eqb m 0) _ _ (Ok tt) (no_ok EmptyCargo tt) b.1 in
    let f = skip (ltb (settings.limit - 4) m) _ _ (Ok tt) (no_ok LongCargo tt) d.1 in
    let g = skip (differs underway channel m) _ _ (Ok tt) (no_ok OtherUnderWay tt) f.1 in
    let h = skip (ltb room (size_of largest (m - held_of underway))) _ _ (Ok tt) (no_ok ShortOutput tt) g.1 in
    let k = fit settings largest underway (not-false _ a.0) in
    record {
      fits = k;
      below = leb-false _ _ b.0;
      some = above m (eqb-false m 0 d.0);
      short = ltb-false _ _ f.0;
      less = sent_less underway channel m k.less g.0;
      roomy = ltb-false _ _ h.0;
    }
  where
    above : (n : ℕ) → (n ≡ 0 → ⊥) → 1 ≤ n
    above n f = omega arith

-- a size lies between the header's four bytes, the largest transfer and all that is left
pub record Sized (largest left : ℕ) : Type 0 where
  pub most : size_of largest left ≤ largest
  pub enough : size_of largest left ≤ left + 4
  pub four : 4 ≤ size_of largest left

pub sized : (largest left : ℕ) → 5 ≤ largest → Sized largest left
unfolding size_of
sized largest left h = record { most = omega arith; enough = omega arith; four = omega arith }
