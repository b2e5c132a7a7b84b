-- A piece with a byte in it is one message.
use Prim.Native.Nat.{ℕ}
use mathlib.Core.Path.{◌≡◌, refl}
use mathlib.Core.List.{List, [], ◌∷◌}
use mathlib.Core.Bool.{Bool, true, false, cond}
use lib.Dec.{ltb, eqb}
use lib.ListN.{length}
use Rattle.refusals.specs.declared.Refusal.TheVariants.{FlagAfterEscape, LongMessage}
use Rattle.writer.specs.Message.{escape, turned}
use Rattle.messages.specs.Messages.{Said, refused, meant, hangs, said, judged, said_of}

abbrev One : List Said → Type 0
One l = (x : Said) × (l ≡ x ∷ [])

one_said : (room id : ℕ) (rest : List ℕ) (hanging : Bool) → One (judged room (id ∷ rest) hanging)
unfolding judged said
one_said room id rest hanging = go (ltb room (length (id ∷ rest))) hanging
  where
    go : (t h : Bool) → One (cond t (refused LongMessage ∷ []) (cond h (refused FlagAfterEscape ∷ []) (said (id ∷ rest))))
    go true h = (refused LongMessage, refl)
    go false true = (refused FlagAfterEscape, refl)
    go false false = (_, refl)

one_hanging : (room : ℕ) → One (judged room [] true)
unfolding judged
one_hanging room = go (ltb room 0)
  where
    go : (t : Bool) → One (cond t (refused LongMessage ∷ []) (refused FlagAfterEscape ∷ []))
    go true = (refused LongMessage, refl)
    go false = (refused FlagAfterEscape, refl)

one_after : (room : ℕ) (p : List ℕ) → One (judged room (meant true p) (hangs true p))
unfolding meant hangs
one_after room [] = one_hanging room
one_after room (b ∷ p) = one_said room (turned b) (meant false p) (hangs false p)

pub one_message : (room b : ℕ) (p : List ℕ) → (x : Said) × (said_of room (b ∷ p) ≡ x ∷ [])
unfolding meant hangs
one_message room b p = go (eqb b escape)
  where
    go : (t : Bool) → One (judged room (cond t (meant true p) (b ∷ meant false p)) (hangs t p))
    go true = one_after room p
    go false = one_said room b (meant false p) (hangs false p)
