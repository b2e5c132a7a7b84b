-- Four stores at the front of a list.
use Prim.Native.Nat.{ℕ, ◌≤◌}
use mathlib.Core.Path.{◌≡◌, refl}
use mathlib.Core.List.{List, [], ◌∷◌}
use native.Mathlib.Omega.{arith}
use lib.ListN.{length, set, drop}

pub four_stores : (d : List ℕ) (a b c e : ℕ) → 4 ≤ length d → set (set (set (set d 0 a) 1 b) 2 c) 3 e ≡ a ∷ b ∷ c ∷ e ∷ drop 4 d
four_stores [] a b c e h = absurd (omega arith)
four_stores (x ∷ []) a b c e h = absurd (omega arith)
four_stores (x ∷ y ∷ []) a b c e h = absurd (omega arith)
four_stores (x ∷ y ∷ z ∷ []) a b c e h = absurd (omega arith)
four_stores (x ∷ y ∷ z ∷ w ∷ d) a b c e h = refl
