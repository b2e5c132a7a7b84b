-- At a flag a stream is two: the messages that close up to it, and those of what follows.
use Prim.Native.Nat.{ℕ, suc}
use mathlib.Core.Path.{◌≡◌, refl, sym, ap, ◌∙◌}
use mathlib.Core.List.{List, [], ◌∷◌, ◌++◌, append_assoc, append-nil, flat_map}
use mathlib.Core.Bool.{Bool, true, false, cond}
use native.Mathlib.Omega.{arith}
use borrow.Author.Tests.{ne_eqb, eqb-false}
use lib.Dec.{eqb}
use lib.ListN.{length}
use Rattle.writer.specs.Message.{flag}
use Rattle.reader.proofs.WriteRead.{NoFlag, none, more}
use Rattle.messages.specs.Messages.{Said, onto, pieces, said_of, messages_of}
use Rattle.messages.specs.Sent.{FlagFree, closed}

pub flat_append : {A B : Type 0} (f : A → List B) (xs ys : List A) → flat_map f (xs ++ ys) ≡ flat_map f xs ++ flat_map f ys
unfolding flat_map
flat_append f [] ys = refl
flat_append f (x ∷ xs) ys = ap (λ (zs : List _). f x ++ zs) (flat_append f xs ys) ∙ sym (append_assoc (f x) (flat_map f xs) (flat_map f ys))

-- ---- the split

-- the pieces up to a flag, whatever follows it
record UpTo (a : List ℕ) : Type 0 where
  first : List ℕ
  others : List (List ℕ)
  are : (b : List ℕ) → pieces (a ++ (flag ∷ b)) ≡ first ∷ (others ++ pieces b)

up_to_byte : (x : ℕ) (a : List ℕ) → UpTo a → (t : Bool) → eqb x flag ≡ t → UpTo (x ∷ a)
unfolding pieces onto
up_to_byte x a u true e = record { first = []; others = u.first ∷ u.others; are = λ b. simp (e, u.are b) }
up_to_byte x a u false e = record { first = x ∷ u.first; others = u.others; are = λ b. simp (e, u.are b) }

up_to : (a : List ℕ) → UpTo a
unfolding pieces
up_to [] = record { first = []; others = []; are = λ b. refl }
up_to (x ∷ a) = up_to_byte x a (up_to a) (eqb x flag) refl

-- ---- the messages

module _ (room : ℕ) where
  -- behind a flag every piece is judged
  pub behind_flag : (bytes : List ℕ) → messages_of room (flag ∷ bytes) ≡ flat_map (said_of room) (pieces bytes)
  unfolding messages_of pieces
  behind_flag bytes = refl

  pub messages_parts : (a bytes : List ℕ) → messages_of room (a ++ (flag ∷ bytes)) ≡ messages_of room (a ++ flag ∷ []) ++ messages_of room (flag ∷ bytes)
  unfolding messages_of pieces
  messages_parts a bytes =
      let u = up_to a in
      rw (u.are bytes, u.are [], append-nil u.others) (flat_append (said_of room) u.others (pieces bytes))

  -- pieces with a flag behind each, and what follows
  pub closed_parts : (ps : List (List ℕ)) (bytes : List ℕ)
      → messages_of room (flag ∷ (closed ps ++ bytes)) ≡ messages_of room (flag ∷ closed ps) ++ messages_of room (flag ∷ bytes)
  unfolding messages_of pieces flat_map
  closed_parts [] bytes = refl
  closed_parts (p ∷ ps) bytes =
      let said : List ℕ → List Said = messages_of room in
      let front = said (flag ∷ p ++ flag ∷ []) in
      ap (λ (xs : List ℕ). said (flag ∷ xs)) (append_assoc (p ++ flag ∷ []) (closed ps) bytes ∙ append_assoc p (flag ∷ []) (closed ps ++ bytes))
      ∙ messages_parts (flag ∷ p) (closed ps ++ bytes)
      ∙ ap (λ (xs : List Said). front ++ xs) (closed_parts ps bytes)
      ∙ sym (append_assoc front (said (flag ∷ closed ps)) (said (flag ∷ bytes)))
      ∙ ap (λ (xs : List Said). xs ++ said (flag ∷ bytes)) (sym (ap (λ (xs : List ℕ). said (flag ∷ xs)) (append_assoc p (flag ∷ []) (closed ps)) ∙ messages_parts (flag ∷ p) (closed ps)))

-- ---- bytes in which no flag stands

pub piece_first : {p : List ℕ} → NoFlag p → (rest : List ℕ) → pieces (p ++ (flag ∷ rest)) ≡ p ∷ pieces rest
unfolding pieces onto
piece_first none rest = refl
piece_first (more {b} {bs} f n) rest = simp (ne_eqb b flag f, piece_first n rest)

noise_byte : (b : ℕ) (bs : List ℕ) → (pieces bs ≡ [] → NoFlag bs) → (t : Bool) → eqb b flag ≡ t → (ps : List (List ℕ)) → pieces bs ≡ ps
    → cond t ([] ∷ ps) (onto b ps) ≡ [] → NoFlag (b ∷ bs)
unfolding onto
noise_byte b bs ih true e ps q h = let z : ◌≡◌ {A = ℕ} (suc (length ps)) 0 = ap length h in absurd (omega arith)
noise_byte b bs ih false e [] q h = more (eqb-false b flag e) (ih q)
noise_byte b bs ih false e (p ∷ ps) q h = let z : ◌≡◌ {A = ℕ} (suc (length ps)) 0 = ap length h in absurd (omega arith)

no_flag_in : (noise : List ℕ) → FlagFree noise → NoFlag noise
unfolding pieces
no_flag_in [] h = none
no_flag_in (b ∷ bs) h = noise_byte b bs (no_flag_in bs) (eqb b flag) refl (pieces bs) refl h

-- such bytes before the first flag are ignored
pub noise_ignored : (room : ℕ) (noise bytes : List ℕ) → FlagFree noise → messages_of room (noise ++ (flag ∷ bytes)) ≡ messages_of room (flag ∷ bytes)
unfolding messages_of pieces
noise_ignored room noise bytes q = rw (piece_first (no_flag_in noise q) bytes)
