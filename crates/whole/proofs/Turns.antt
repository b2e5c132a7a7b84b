-- A loop whose turns are those of `turns`: the rest goes on as the whole does.
use Rattle.std.proofs.Common.{◌≡◌, ℕ, zero, suc, ◌<◌, ◌≤◌, Bool, true, false, sym, refl, ◌∙◌, arith}
use Rattle.whole.specs.Streams.{turns}

module _ {S : Type 0} (more : S → Bool) (turn : S → S) (left : S → ℕ) where
  -- s is on the way that s₀ goes in k turns
  pub record Goes (k : ℕ) (s₀ s : S) : Type 0 where
    pub fuel : ℕ
    pub enough : left s ≤ fuel
    pub same : turns more turn fuel s ≡ turns more turn k s₀

  pub begins : (k : ℕ) (s : S) → left s ≤ k → Goes k s s
  begins k s h = record { fuel = k; enough = h; same = refl }

  one : (k : ℕ) (s : S) → more s ≡ true → turns more turn (suc k) s ≡ turns more turn k (turn s)
  unfolding turns
  one k s e = simp e

  pub goes_on : (k : ℕ) (s₀ s s' : S) → Goes k s₀ s → more s ≡ true → s' ≡ turn s → left s' < left s → Goes k s₀ s'
  goes_on k s₀ s s' g e p h = go g.fuel g.enough g.same
    where
      go : (n : ℕ) → left s ≤ n → turns more turn n s ≡ turns more turn k s₀ → Goes k s₀ s'
      go zero l q = absurd (omega arith)
      go (suc n) l q = record { fuel = n; enough = omega arith; same = rw p (sym (one n s e) ∙ q) }

  stop : (n : ℕ) (s : S) → more s ≡ false → s ≡ turns more turn n s
  unfolding turns
  stop zero s e = refl
  stop (suc n) s e = simp e

  pub ends : (k : ℕ) (s₀ s : S) → Goes k s₀ s → more s ≡ false → s ≡ turns more turn k s₀
  ends k s₀ s g e = stop g.fuel s e ∙ g.same
