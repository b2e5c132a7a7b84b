-- Parts stored one behind the other, from the front of a row on.
use Prim.Native.Nat.{ℕ, ◌+◌, ◌-◌}
use mathlib.Core.Path.{◌≡◌, refl, ap, ◌∙◌}
use mathlib.Core.List.{List, [], ◌++◌, append-nil}
use native.Mathlib.Omega.{arith}
use lib.ListN.{length, drop, length-append, length-drop, drop_of_length-le}
use lib.Seq.{paste, drop-drop}
use Rattle.laws.proofs.Maps.{behind}

-- p stands at the front of x, behind it what d has from there on
pub record Filled (d p x : List ℕ) (at : ℕ) : Type 0 where
  pub size : length p ≡ at
  pub is : x ≡ p ++ drop at d

pub unfilled : (d : List ℕ) → Filled d [] d 0
unfilled d = record { size = refl; is = refl }

pub fill : {d p x : List ℕ} {at : ℕ} (s y : List ℕ) (n k : ℕ) → Filled d p x at → length s ≡ n → at + n ≡ k → y ≡ paste x at s n → Filled d (p ++ s) y k
fill {d} {p} {x} {at} s y n k f e h q =
    record {
      size = length-append p s ∙ rw (f.size, e) h;
      is = q ∙ ap (λ (z : List ℕ). paste z at s n) f.is ∙ behind p (drop at d) s at n f.size e ∙ rw (drop-drop n at d, h);
    }

-- nothing is left of d
pub full : (d p x : List ℕ) (at : ℕ) → Filled d p x at → length d ≡ at → x ≡ p
full d p x at f e = f.is ∙ rw (drop_of_length-le d {i = at} (omega arith)) (append-nil p)

-- one part that is the whole row
pub whole_row : (d s x : List ℕ) → length d ≡ length s → x ≡ paste d 0 s (length s) → x ≡ s
whole_row d s x e q = full d s x (length s) (fill s x (length s) (length s) (unfilled d) refl (omega arith) q) e

-- a row that is known to be filled up to a place
pub filled : (d p x : List ℕ) (at : ℕ) → x ≡ p ++ drop at d → length x ≡ length d → at + (length d - at) ≡ length d → Filled d p x at
filled d p x at e l h = record { size = size; is = e }
  where
    size : length p ≡ at
    size = let k = ap length e ∙ length-append p (drop at d) in let m = length-drop at d in omega arith
