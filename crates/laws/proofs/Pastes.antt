-- Copies laid one over the end of another.
use Prim.Native.Nat.{ℕ, ◌+◌, ◌-◌, ◌≤◌}
use mathlib.Core.Path.{◌≡◌, sym, ap, ◌∙◌}
use mathlib.Core.List.{List, ◌++◌, append_assoc, append-nil}
use native.Mathlib.Omega.{arith}
use lib.ListN.{length, take, drop, length-drop, drop_of_length-le}
use lib.Seq.{paste, take-paste, drop-paste, take-take, take-add, take-append-add, take_all, drop-drop, length-take-le}

module _ (d s : List ℕ) (at i last k : ℕ) (low : last ≤ i) (high : i ≤ last + k) (room : at + (last + k) ≤ length d) (some : last + k ≤ length s) where
  abbrev x : List ℕ
  x = paste d at s i

  front : take (at + last) x ≡ take at d ++ take last s
  front =
      let n : length (take at d) ≡ at = length-take-le at d (omega arith) in
      let e : take (at + last) (take at d ++ take i s) ≡ take at d ++ take last (take i s) = rw n at (take-append-add (take at d) (take i s) last) in
      sym (take-take (at + last) (at + i) x (omega arith)) ∙ ap (take (at + last)) (take-paste d at s i (omega arith) (omega arith)) ∙ e
      ∙ ap (λ (l : List ℕ). take at d ++ l) (take-take last i s low)

  back : drop (at + last + k) x ≡ drop (at + (last + k)) d
  back =
      let e : at + i + (last + k - i) ≡ at + last + k = omega arith in
      let f : at + i + (last + k - i) ≡ at + (last + k) = omega arith in
      ap (λ (m : ℕ). drop m x) (sym e) ∙ sym (drop-drop (last + k - i) (at + i) x)
      ∙ ap (drop (last + k - i)) (drop-paste d at s i (omega arith) (omega arith)) ∙ drop-drop (last + k - i) (at + i) d ∙ ap (λ (m : ℕ). drop m d) f

  pub paste_over : paste (paste d at s i) (at + last) (drop last s) k ≡ paste d at s (last + k)
  paste_over = rw (front, back, take-add last k s) (simp append_assoc)

-- the same, from a place in a source
pub copied : (d src x y : List ℕ) (from at i last k : ℕ) → x ≡ paste d at (drop from src) i → y ≡ paste x (at + last) (drop (from + last) src) k
    → last ≤ i → i ≤ last + k → at + (last + k) ≤ length d → from + (last + k) ≤ length src → y ≡ paste d at (drop from src) (last + k)
copied d src x y from at i last k e f low high room some =
    let g : drop (from + last) src ≡ drop last (drop from src) = sym (drop-drop last from src) in
    f ∙ rw (e, g) (paste_over d (drop from src) at i last k low high room (simp length-drop (omega arith)))

-- an array that was copied over whole
pub over : (p b b' : List ℕ) (k : ℕ) → length p ≡ k → length b ≡ k → b' ≡ take (length p) p ++ drop (length p) b → b' ≡ p
over p b b' k h l e = e ∙ rw (take_all (length p) p (omega arith), drop_of_length-le b {i = length p} (omega arith)) (append-nil p)
