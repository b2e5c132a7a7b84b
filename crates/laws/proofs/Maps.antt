-- A row filled place by place, each from its own field: the laws of every loop that loads or stores a part.
use Prim.Native.Nat.{ℕ, ◌+◌, ◌<◌, ◌≤◌}
use native.Mathlib.Numerals.{add-one}
use native.Mathlib.Nat.{zero-add}
use native.Mathlib.Omega.{arith}
use mathlib.Core.Path.{◌≡◌, sym, ap, ◌∙◌}
use mathlib.Core.List.{List, [], ◌++◌, map, map-append, append-nil}
use lib.ListN.{length, get_or, set, take, drop, length-map, length-drop, get_or-map}
use lib.Seq.{paste, paste-suc, get_or-drop, take_all, take-suc, take-suc-set, take_at, drop-append-add, drop-paste, drop-length}

pub turn : {A : Type 0} (d x s : List A) (at i : ℕ) (z : A) → x ≡ paste d at s i → at + i < length d → i < length s
    → set x (at + i) (get_or s i z) ≡ paste d at s (i + 1)
turn d x s at i z e hd hs = rw (e, add-one) (paste-suc d at s i z hd hs)

pub stored : {A : Type 0} (d x s : List A) (at i n : ℕ) → x ≡ paste d at s i → i ≡ n → x ≡ paste d at s n
stored d x s at i n e p = rw (← p) e

module _ {A B : Type 0} (f : A → B) where
  -- a store: the place `at + i` of the row gets the number of field i
  pub store_turn : (d x : List B) (s : List A) (at i : ℕ) (z : A) (y : B) → x ≡ paste d at (map f s) i → at + i < length d → i < length s
      → y ≡ f (get_or s i z) → set x (at + i) y ≡ paste d at (map f s) (i + 1)
  store_turn d x s at i z y e hd hs p =
      rw (p, ← get_or-map f s i z) (turn d x (map f s) at i (f z) e hd (rw (length-map s f) hs))

  -- a load: field i gets the number at the place `at + i` of the row
  pub load_turn : (x : List B) (row : List A) (at i : ℕ) (z : A) (y : B) → take i x ≡ map f (take i (drop at row)) → i < length x → at + i < length row
      → y ≡ f (get_or row (at + i) z) → take (i + 1) (set x i y) ≡ map f (take (i + 1) (drop at row))
  load_turn x row at i z y e hx hr p =
      let k : i < length (drop at row) = simp length-drop (omega arith) in
      rw (add-one, take-suc-set x i y hx, take-suc (drop at row) i z k, map-append f (take i (drop at row)), e, p, get_or-drop)

  -- all 32 loaded
  pub loaded : (x : List B) (row : List A) (at i : ℕ) → take i x ≡ map f (take i (drop at row)) → i ≡ 32 → length x ≡ 32 → x ≡ map f (take 32 (drop at row))
  loaded x row at i e p q = sym (take_all 32 x (omega arith)) ∙ rw p at e

-- a part stored behind what is there already
pub behind : {A : Type 0} (p d s : List A) (at n : ℕ) → length p ≡ at → length s ≡ n → paste (p ++ d) at s n ≡ p ++ s ++ drop n d
behind p d s at n e q =
    let k : drop (at + n) (p ++ d) ≡ drop n d = rw (← e) (drop-append-add p d n) in
    rw (take_at p d at e, take_all n s (omega arith), k)

module _ {A : Type 0} (f : A → A) where
  -- a list made anew in place: what lies from i on is as it was
  ahead : (d x s : List A) (i : ℕ) (z : A) → x ≡ paste d 0 s i → i < length d → i ≤ length s → get_or x i z ≡ get_or d i z
  ahead d x s i z e hd hs =
      let k : 0 + i ≡ i = zero-add i in
      let w : drop i x ≡ drop i d = rw e (ap (λ (n : ℕ). drop n (paste d 0 s i)) (sym k) ∙ drop-paste d 0 s i (omega arith) hs ∙ ap (λ (n : ℕ). drop n d) k) in
      let q : i + 0 ≡ i = omega arith in
      ap (λ (n : ℕ). get_or x n z) (sym q) ∙ sym (get_or-drop i x 0 z) ∙ ap (λ (l : List A). get_or l 0 z) w ∙ get_or-drop i d 0 z ∙ ap (λ (n : ℕ). get_or d n z) q

  pub map_turn : (d x : List A) (i : ℕ) (z : A) → x ≡ paste d 0 (map f d) i → i < length d → set x i (f (get_or x i z)) ≡ paste d 0 (map f d) (i + 1)
  map_turn d x i z e h =
      let m : length (map f d) ≡ length d = length-map d f in
      let g : get_or x i z ≡ get_or d i z = ahead d x (map f d) i z e h (omega arith) in
      let k : 0 + i ≡ i = zero-add i in
      let p : f (get_or x i z) ≡ f (get_or d i z) = ap f g in
      ap (λ (n : ℕ). set x n (f (get_or x i z))) (sym k) ∙ store_turn f d x d 0 i z (f (get_or x i z)) e (omega arith) h p

  pub map_whole : (d x : List A) (i : ℕ) → x ≡ paste d 0 (map f d) i → i ≡ length d → x ≡ map f d
  map_whole d x i e p =
      let m : length (map f d) ≡ length d = length-map d f in
      let k : 0 + i ≡ i = zero-add i in
      let a : take i (map f d) ≡ map f d = take_all i (map f d) (omega arith) in
      let b : drop (0 + i) d ≡ [] = rw (k, p) (drop-length d) in
      e ∙ rw (a, b) (append-nil (map f d))
