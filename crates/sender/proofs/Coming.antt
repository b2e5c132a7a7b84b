-- The next transfer, as its caller meets it: refused, or one that the cargo and the output have room for.
use Prim.Native.Nat.{ℕ, ◌≤◌, ◌<◌, ◌-◌, ◌+◌}
use mathlib.Core.Path.{◌≡◌, refl}
use native.Mathlib.Omega.{arith}
use Rattle.std.specs.Prelude.{Result, Ok, Err}
use Rattle.std.specs.Result.{result_and}
use Rattle.laws.proofs.Tests.{clash}
use Rattle.refusals.specs.declared.Refusal.{Refusal}
use Rattle.joining.specs.Joining.{held_of}
use Rattle.sender.specs.declared.Sender.{Sender}
use Rattle.sender.specs.declared.Next.{Next}
use Rattle.sender.specs.Send.{size_of, judge_send, size_at, header_at, after, next_of}
use Rattle.sender.proofs.Ready.{Ready, ready, sized}

abbrev pub next_at : Sender → ℕ → ℕ → Next
next_at s channel m =
    record { sender = after s channel m; header = header_at s channel m; size = size_at s m; from = held_of s.underway }

pub refused_next : (s : Sender) (channel m room : ℕ) {r : Refusal} → Err r ≡ next_of s channel m room → judge_send s channel m room ≡ Err r
refused_next s channel m room {r} e = go (judge_send s channel m room) refl e
  where
    go : (x : Result Unit Refusal) → judge_send s channel m room ≡ x → ◌≡◌ {A = Result Next Refusal} (Err r) (result_and x (Ok (next_at s channel m)))
        → judge_send s channel m room ≡ Err r
    go (Ok u) p q = absurd (clash (cc))
    go (Err x) p q = cc

-- what comes next comes where the tests pass, and is the one transfer
pub record Taken (s : Sender) (channel m room : ℕ) (x : Next) : Type 0 where
  pub passed : judge_send s channel m room ≡ Ok tt
  pub is : x ≡ next_at s channel m

pub taken_next : (s : Sender) (channel m room : ℕ) {x : Next} → Ok x ≡ next_of s channel m room → Taken s channel m room x
taken_next s channel m room {x} e = go (judge_send s channel m room) refl e
  where
    go : (r : Result Unit Refusal) → judge_send s channel m room ≡ r → ◌≡◌ {A = Result Next Refusal} (Ok x) (result_and r (Ok (next_at s channel m)))
        → Taken s channel m room x
    go (Ok u) p q = record { passed = p; is = cc }
    go (Err r) p q = absurd (clash (cc))

-- a transfer that comes next: its header can be written, the carried bytes lie in the cargo, and the whole in the output
pub record Coming (channel m room done size : ℕ) : Type 0 where
  pub below : channel < 32
  pub less : done ≤ m
  pub few : m ≤ 32762
  pub four : 4 ≤ size
  pub carried : done + (size - 4) ≤ m
  pub roomy : size ≤ room

pub coming : (s : Sender) (channel m room : ℕ) → judge_send s channel m room ≡ Ok tt → {done size : ℕ} → done ≡ held_of s.underway → size ≡ size_of s.largest (m - done)
    → Coming channel m room done size
coming s channel m room e {done} {size} a b =
    let r : Ready s.settings s.largest s.underway channel m room = ready s.settings s.largest s.underway channel m room e in
    let w = rw (← a) at r.roomy in
    let z = sized s.largest (m - done) r.fits.five in
    let h = r.fits.range in
    record { below = omega arith; less = omega arith; few = omega arith; four = omega arith; carried = omega arith; roomy = omega arith }
