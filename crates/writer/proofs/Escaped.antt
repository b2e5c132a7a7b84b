-- The escaped payload: its length, what a place of it adds, and a message stored byte by byte.
use Rattle.std.proofs.Common.{◌≡◌, refl, sym, ap, ◌∙◌, ℕ, suc, ◌+◌, ◌≤◌, ◌<◌, Bool, true, false, cond, List, [], ◌∷◌, ◌++◌, length, set, drop, get_or, append_assoc, length-append, arith, ne_eqb}
use Rattle.std.proofs.lemmas.List.Edits.{sets}
use Rattle.std.proofs.lemmas.List.Sums.{sum_by-cons, sum_by-append}
use native.Mathlib.Nat.{add-zero}
use lib.ListN.{drop_of_length-le}
use lib.Seq.{sets-eq}
use Rattle.laws.proofs.Lists.{next_cons}
use Rattle.writer.specs.Message.{flag, escape, special, turned, sent, escaped, message, escapes, written_length}

pub sent_length : (b : ℕ) → length (sent b) ≡ 1 + cond (special b) 1 0
unfolding sent
sent_length b = go (special b)
  where
    go : (t : Bool) → length (cond t (escape ∷ turned b ∷ []) (b ∷ [])) ≡ 1 + cond t 1 0
    go true = refl
    go false = refl

abbrev counts : ℕ → ℕ
counts b = cond (special b) 1 0

pub escaped_length : (p : List ℕ) → length (escaped p) ≡ length p + escapes p
unfolding escaped
escaped_length [] = refl
escaped_length (b ∷ p) = simp (length-append, sent_length b, escaped_length p, sum_by-cons counts b p) (omega arith)

-- a payload in two parts
pub escapes_append : (xs ys : List ℕ) → escapes (xs ++ ys) ≡ escapes xs + escapes ys
escapes_append xs ys = sum_by-append counts xs ys

escaped_append : (xs ys : List ℕ) → escaped (xs ++ ys) ≡ escaped xs ++ escaped ys
unfolding escaped
escaped_append [] ys = refl
escaped_append (x ∷ xs) ys = rw (escaped_append xs ys) (sym (append_assoc (sent x) (escaped xs) (escaped ys)))

pub escaped_at : (p : List ℕ) (i : ℕ) → i < length p → escaped (drop i p) ≡ sent (get_or p i 0) ++ escaped (drop (i + 1) p)
unfolding escaped
escaped_at p i h = rw (next_cons p i h)

pub escaped_end : (p : List ℕ) (i : ℕ) → length p ≤ i → escaped (drop i p) ≡ []
unfolding escaped
escaped_end p i h = rw (drop_of_length-le p {i = i} h)

-- bytes stored, and more behind them
pub sets_append : (l : List ℕ) (i : ℕ) (xs ys : List ℕ) → sets l i (xs ++ ys) ≡ sets (sets l i xs) (i + length xs) ys
sets_append l i [] ys = rw add-zero
sets_append l i (x ∷ xs) ys = sets_append (set l i x) (suc i) xs ys ∙ ap (λ (k : ℕ). sets (sets (set l i x) (suc i) xs) k ys) (omega arith)

-- an ID that is written is not escaped
plain_id : (id : ℕ) (p : List ℕ) → id ≤ 1 → message id p ≡ flag ∷ id ∷ escaped p ++ flag ∷ []
unfolding escaped sent
plain_id id p h = simp (ne_eqb id 126 (λ e. omega arith), ne_eqb id 125 (λ e. omega arith))

pub message_length : (id : ℕ) (p : List ℕ) → id ≤ 1 → length (message id p) ≡ written_length p
message_length id p h = ap length (plain_id id p h) ∙ simp (length-append, escaped_length p) (omega arith)

-- both parts stored, one behind the other
pub joined_stored : (l : List ℕ) (i : ℕ) (a b : List ℕ) → sets (sets l i (escaped a)) (i + length (escaped a)) (escaped b) ≡ sets l i (escaped (a ++ b))
joined_stored l i a b = sym (sets_append l i (escaped a) (escaped b)) ∙ ap (sets l i) (sym (escaped_append a b))

pub joined_escaped : (a b : List ℕ) → length (escaped (a ++ b)) ≡ length (escaped a) + length (escaped b)
joined_escaped a b = ap length (escaped_append a b) ∙ length-append (escaped a) (escaped b)

-- the writer's stores leave the message at the front of the output
pub message_stored : (id : ℕ) (p out : List ℕ) → id ≤ 1 → written_length p ≤ length out
    → set (sets (set (set out 0 flag) 1 id) 2 (escaped p)) (2 + length (escaped p)) flag ≡ message id p ++ drop (written_length p) out
message_stored id p out h room =
    sym (sets_append (set (set out 0 flag) 1 id) 2 (escaped p) (flag ∷ []))
    ∙ ap (sets out 0) (sym (plain_id id p h))
    ∙ sets-eq (message id p) out 0 (rw (message_length id p h) (omega arith))
    ∙ ap (λ (k : ℕ). message id p ++ drop k out) whole
  where
    whole : 0 + length (message id p) ≡ written_length p
    whole = omega (arith, message_length id p h)
