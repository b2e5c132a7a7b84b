-- A number read digit by digit: what stands at a place of the text, and what is left behind it.
use Rattle.std.proofs.Common.{◌≡◌, refl, sym, ◌∙◌, ℕ, ◌+◌, ◌-◌, ◌*◌, ◌≤◌, ◌<◌, Bool, true, false, cond, ◌&&◌, List, [], ◌∷◌, leb, length, get_or, drop, add-one, drop-cons, arith}
use Rattle.std.specs.Prelude.{None, Some}
use Rattle.std.specs.Bool.{then_some}
use Rattle.std.specs.Char.{is_ascii_digit}
use Rattle.std.proofs.Math.ListN.{drop_of_length-le}
use borrow.Author.Tests.{lt-leb, le-leb, leb-true}
use Rattle.laws.proofs.Tests.{and-true}
use Rattle.arguments.specs.Number.{is_digit, all_digits, value_from, number_from}

-- the library's test of a digit is the one of `specs/Number`
same : (b : ℕ) → is_ascii_digit b ≡ is_digit b
unfolding is_digit
same b = refl

pub no_less : (b : ℕ) → is_digit b ≡ true → 48 ≤ b
unfolding is_digit
no_less b e = leb-true 48 b (and-true _ _ e).0

grows : (n : ℕ) (text : List ℕ) → n ≤ value_from n text
grows n [] = omega arith
grows n (b ∷ rest) = omega (arith, grows (n * 10 + (b - 48)) rest)

module _ (least most n : ℕ) where
  pub too_large : (text : List ℕ) → most < n → None ≡ number_from least most n text
  unfolding number_from
  too_large text h = rw (lt-leb (value_from n text) most (omega (arith, grows n text))) (go (all_digits text))
    where
      go : (all : Bool) → None ≡ cond (all && false && leb least (value_from n text)) (Some (value_from n text)) None
      go true = refl
      go false = refl

  module _ (text : List ℕ) (i : ℕ) where
    pub step : i < length text → is_ascii_digit (get_or text i 0) ≡ true
        → number_from least most n (drop i text) ≡ number_from least most (n * 10 + (get_or text i 0 - 48)) (drop (i + 1) text)
    unfolding number_from
    step h d = rw (add-one i, drop-cons text i 0 h, sym (same (get_or text i 0)) ∙ d)

    pub no_digit : i < length text → is_ascii_digit (get_or text i 0) ≡ false → None ≡ number_from least most n (drop i text)
    unfolding number_from
    no_digit h d = rw (drop-cons text i 0 h, sym (same (get_or text i 0)) ∙ d)

    -- all of them read
    pub ended : length text ≤ i → n ≤ most → then_some (leb least n) n ≡ number_from least most n (drop i text)
    unfolding number_from
    ended h k = rw (drop_of_length-le text {i = i} h, le-leb n most k) (go (leb least n))
      where
        go : (b : Bool) → then_some b n ≡ cond b (Some n) None
        go true = refl
        go false = refl
