-- What a flag closes is said by the bytes held alone.
use Rattle.std.proofs.Common.{◌≡◌, refl, ℕ, zero, suc, ◌≤◌, List, [], ◌∷◌, length, take, arith, length-take-le}
use Rattle.reader.specs.Reader.{at_flag, message_of, control}
use Rattle.reader.specs.declared.Phase.TheVariants.{Inside}

held_alone : (held : ℕ) (buf : List ℕ) → held ≤ length buf → at_flag Inside held (take held buf) ≡ at_flag Inside held buf
unfolding at_flag message_of control
held_alone zero buf h = refl
held_alone (suc zero) (b ∷ buf) h = refl
held_alone (suc (suc zero)) (b ∷ buf) h = refl
held_alone (suc (suc (suc n))) (b ∷ low ∷ high ∷ buf) h = refl
held_alone (suc n) [] h = absurd (omega arith)
held_alone (suc (suc (suc n))) (b ∷ []) h = absurd (omega arith)
held_alone (suc (suc (suc n))) (b ∷ low ∷ []) h = absurd (omega arith)

pub front_alone : (held : ℕ) (buf : List ℕ) → held ≤ length buf → at_flag Inside (length (take held buf)) (take held buf) ≡ at_flag Inside held buf
front_alone held buf h = rw (length-take-le held buf h) (held_alone held buf h)
