-- A copy by `bytes::copy` into the part of a slice from `at` on, as the slice is when the part is back.
use Prim.Native.Nat.{ℕ, ◌≤◌, ◌+◌, ◌-◌}
use mathlib.Core.Path.{◌≡◌, ◌∙◌, ap}
use mathlib.Core.List.{List, [], ◌++◌, append-nil, append_assoc}
use native.Mathlib.Omega.{arith}
use lib.ListN.{length, take, drop, length-drop}
use lib.Seq.{paste, take_all, length-take-le, drop-drop, drop-length}
use borrow.Rule.Slice.PartMut.{mid_of, put_mid}

pub part_copied : (d s src x : List ℕ) (at count : ℕ) → at + count ≤ length d → count ≤ length s → src ≡ take count s
    → x ≡ take (length src) src ++ drop (length src) (mid_of at (length d - at) d)
    → put_mid at (length d - at) d x ≡ paste d at s count
part_copied d s src x at count room some e p =
    let n : length src ≡ count = ap length e ∙ length-take-le count s some in
    let m : mid_of at (length d - at) d ≡ drop at d = take_all (length d - at) (drop at d) (simp length-drop (omega arith)) in
    let q : drop (length d - at) (drop at d) ≡ [] = drop-drop (length d - at) at d ∙ ap (λ (k : ℕ). drop k d) whole ∙ drop-length d in
    rw (p, q, m, n, drop-drop, e, append-nil, take_take_same, append_assoc)
  where
    whole : at + (length d - at) ≡ length d
    whole = omega arith

    take_take_same : take count (take count s) ≡ take count s
    take_take_same = take_all count (take count s) (rw (length-take-le count s some) (omega arith))
