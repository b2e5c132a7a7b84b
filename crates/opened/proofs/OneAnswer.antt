-- Each public function's contract decides its answer, and the content of what was lent to it.
-- `Learnt` is the contract itself, as the checker hands it to callers: nothing is stated a second time here.
use mathlib.Core.Path.{◌≡◌, ◌∙◌, sym}
use seplogic.Ra.Ura.{Ura}
use base.Logic.{SProp, ent, id⊢, sep, via, fst∗, snd∗}
use prog.Memory.{Memory}
use prog.Routine.{Routine}
use types.Logic.{Logic}
use contract.Lifetimes.{Lfts}
use contract.Monad.{Fun, fact, fact_i, fact_mono, fact_use}
use denote.Triple.Entry.{Args}
use borrow.Fn.Kinds.{Dens}
use Rattle.laws.specs.OneAnswer.{OneAnswer, one_answer, together}
use Rattle.advert.specs.Entry.{EntryAnswer}
use Rattle.opened.specs.declared.Advertisement.{Advertisement}
use Rattle.opened.proofs.turn_at.Kinds as turn_at_kinds
use Rattle.opened.proofs.turn_at.Reads as turn_at
use Rattle.opened.proofs.Advertisement.open.Kinds as open_kinds
use Rattle.opened.proofs.Advertisement.open.Reads as open_reads
use Rattle.opened.proofs.Advertisement.value.Kinds as value_kinds
use Rattle.opened.proofs.Advertisement.value.Reads as value_reads
use Rattle.opened.proofs.Advertisement.next.Kinds as next_kinds
use Rattle.opened.proofs.Advertisement.next.Reads as next_reads
use Rattle.opened.specs.contracts.Advertisement.open as open_fn
use Rattle.opened.specs.contracts.Advertisement.value as value_fn
use Rattle.opened.specs.contracts.Advertisement.next as next_fn
use Rattle.advert.proofs.OneAnswer.{Seen, seen, is_seen}

pub one_turn_at : (κs : Lfts 1) (a : Dens κs turn_at_kinds.ps) → OneAnswer (turn_at.Learnt κs a) (λ r s. r)
one_turn_at κs a = one_answer _ _ _ (λ r s p. p)

pub one_open_learnt : (κs : Lfts 1) (a : Dens κs open_kinds.ps) → OneAnswer (open_reads.Learnt κs a) (λ r s. r)
one_open_learnt κs a = one_answer _ _ _ (λ r s p. p)

pub one_value_learnt : (κs : Lfts 1) (a : Dens κs value_kinds.ps) → OneAnswer {W = Seen} (value_reads.Learnt κs a) (λ r s. seen r)
one_value_learnt κs a = one_answer _ _ _ (λ r s p. is_seen p)

pub one_next_learnt : (κs : Lfts 2) (a : Dens κs next_kinds.ps) → OneAnswer {W = EntryAnswer × Advertisement} (next_reads.Learnt κs a) (λ r s. (r, s.0.now))
one_next_learnt κs a = one_answer _ _ _ (λ r s p. together p.0 p.1)

-- Of the functions over an `Advertisement` the same is said in the program logic too, with the contract's clauses.
module _ {M : Type 1} (𝓤 : Ura M) where
  abbrev pub OneClause : {R S W : Type 0} → (R → S → SProp 𝓤) → (R → S → W) → Type 1
  OneClause {R} {S} c see = (r r' : R) (s s' : S) → ent 𝓤 (sep 𝓤 (c r s) (c r' s')) (fact 𝓤 (see r s ≡ see r' s'))

  one_clause : {R S W : Type 0} (c : R → S → SProp 𝓤) (see : R → S → W) (v : W) → ((r : R) (s : S) → ent 𝓤 (c r s) (fact 𝓤 (see r s ≡ v))) → OneClause c see
  one_clause c see v f r r' s s' =
      fact_use 𝓤 (see r s ≡ v) (via 𝓤 (c r s) (fst∗ 𝓤 (c r s) (c r' s')) (f r s)) (λ p.
      fact_use 𝓤 (see r' s' ≡ v) (via 𝓤 (c r' s') (snd∗ 𝓤 (c r s) (c r' s')) (f r' s')) (λ q.
      fact_i 𝓤 (see r s ≡ see r' s') (sep 𝓤 (c r s) (c r' s')) (p ∙ sym q)))

  -- a contract of two clauses
  one_of_both : {R S X Y : Type 0} (see₀ : R → S → X) (see₁ : R → S → Y) (x : X) (y : Y)
      → OneClause {W = X × Y} (λ r s. sep 𝓤 (fact 𝓤 (see₀ r s ≡ x)) (fact 𝓤 (see₁ r s ≡ y))) (λ r s. (see₀ r s, see₁ r s))
  one_of_both see₀ see₁ x y = one_clause _ _ (x, y) (λ r s.
      let first = fact 𝓤 (see₀ r s ≡ x) in
      let second = fact 𝓤 (see₁ r s ≡ y) in
      fact_use 𝓤 _ (fst∗ 𝓤 first second) (λ p. fact_use 𝓤 _ (snd∗ 𝓤 first second) (λ q. fact_i 𝓤 _ (sep 𝓤 first second) (together p q))))

  module _ (𝓛 : Logic 𝓤) (mem : Memory → SProp 𝓤) (run : Routine → Fun 𝓤) where
    pub one_open : (κs : Lfts 1) (a : Args open_fn.signature κs) → OneClause ((open_fn.clauses 𝓛 mem run κs a).ensures tt) (λ r s. r)
    one_open κs a = one_clause _ _ _ (λ r s. id⊢ 𝓤 _)

    pub one_value : (κs : Lfts 1) (a : Args value_fn.signature κs) → OneClause {W = Seen} ((value_fn.clauses 𝓛 mem run κs a).ensures tt) (λ r s. seen r)
    one_value κs a = one_clause _ _ _ (λ r s. fact_mono 𝓤 _ _ is_seen)

    pub one_next : (κs : Lfts 2) (a : Args next_fn.signature κs) → OneClause {W = EntryAnswer × Advertisement} ((next_fn.clauses 𝓛 mem run κs a).ensures tt) (λ r s. (r, s.0.now))
    one_next κs a = one_of_both (λ r s. r) (λ r s. s.0.now) _ _
