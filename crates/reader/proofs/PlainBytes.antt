-- Plain bytes, of which none is escaped: a run of them is joined of parts.
use Rattle.std.proofs.Common.{◌≡◌, refl, ap, ◌∙◌, ℕ, ◌+◌, Bool, true, false, cond, List, [], ◌∷◌, take, drop, arith}
use Rattle.std.specs.Prelude.{not}
use Rattle.std.specs.List.{prefix_len}
use Rattle.std.proofs.lemmas.List.Sums.{sum_by-append}
use lib.Seq.{take-add}
use Rattle.writer.specs.Message.{special, escapes}

abbrev counts : ℕ → ℕ
counts b = cond (special b) 1 0

-- k bytes at the front, and n behind them
pub escapes_joined : (s : List ℕ) (k n : ℕ) → escapes (take (k + n) s) ≡ escapes (take k s) + escapes (take n (drop k s))
escapes_joined s k n = ap escapes (take-add k n s) ∙ sum_by-append counts (take k s) (take n (drop k s))

-- the plain bytes at the front are plain
abbrev pub is_plain : ℕ → Bool
is_plain b = not (special b)

plain_more : (b : ℕ) (s : List ℕ) (n : ℕ) → escapes (take n s) ≡ 0 → (t : Bool) → special b ≡ t → escapes (take (cond (not t) (1 + n) 0) (b ∷ s)) ≡ 0
plain_more b s n h true e = refl
plain_more b s n h false e = escapes_joined (b ∷ s) 1 n ∙ simp e (omega (arith, h))

pub plain_front : (s : List ℕ) → escapes (take (prefix_len is_plain s) s) ≡ 0
plain_front [] = refl
plain_front (b ∷ s) = plain_more b s (prefix_len is_plain s) (plain_front s) (special b) refl
