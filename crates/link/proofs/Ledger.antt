-- What the wire did to a channel, as a running account, and what the receiver's channel has to do with it.
use Prim.Native.Nat.{ℕ, zero, suc, ◌+◌, ◌%◌, ◌^◌, ◌≤◌, ◌<◌}
use native.Mathlib.Omega.{arith}
use mathlib.Core.Bool.{Bool, true, false, cond, and-false, true≢false}
use mathlib.Core.List.{List, [], ◌∷◌, ◌++◌}
use mathlib.Core.Path.{◌≡◌, refl, ◌∙◌}
use borrow.Author.Tests.{eq-eqb, ne_eqb}
use Rattle.header.specs.Sequence.{gap_of}
use Rattle.joining.specs.declared.channels.Channel.{Channel}
use Rattle.joining.specs.Channel.{is_repeat, repeated, heard_of}
use Rattle.link.specs.Demand.{longest, LossesUpTo, some, lost, surplus}

-- the losses since the last arrival, those before it, and the surplus copies
pub record Ledger : Type 0 where
  pub pending : ℕ
  pub lost : ℕ
  pub extra : ℕ

abbrev pub note : Ledger → ℕ → Ledger
note a zero = record { pending = suc a.pending; lost = a.lost; extra = a.extra }
note a (suc k) = record { pending = 0; lost = a.lost + a.pending; extra = a.extra + k }

unfoldable pub tally : Ledger → List ℕ → Ledger
tally a [] = a
tally a (k ∷ fs) = tally (note a k) fs

pub tally_append : (a : Ledger) (fs hs : List ℕ) → tally a (fs ++ hs) ≡ tally (tally a fs) hs
unfolding tally
tally_append a [] hs = refl
tally_append a (k ∷ fs) hs = tally_append (note a k) fs hs

pub few_append : (a : Ledger) (fs hs : List ℕ) → LossesUpTo longest a.pending (fs ++ hs) → LossesUpTo longest a.pending fs × LossesUpTo longest (tally a fs).pending hs
unfolding LossesUpTo tally
few_append a [] hs h = (tt, h)
few_append a (zero ∷ fs) hs h = let r = few_append (note a 0) fs hs h.1 in ((h.0, r.0), r.1)
few_append a (suc k ∷ fs) hs h = few_append (note a (suc k)) fs hs h

-- ---- the account is what the statement says

pub none_lost : (fs : List ℕ) → some fs ≡ false → lost fs ≡ 0
unfolding some lost
none_lost [] e = refl
none_lost (zero ∷ fs) e = simp e
none_lost (suc k ∷ fs) e = absurd (true≢false e)

pub tally_lost : (a : Ledger) (fs : List ℕ) → (tally a fs).lost ≡ a.lost + cond (some fs) (a.pending + lost fs) 0
unfolding tally some lost
tally_lost a [] = omega arith
tally_lost a (zero ∷ fs) = tally_lost (note a 0) fs ∙ go (some fs)
  where
    go : (b : Bool) → a.lost + cond b (suc a.pending + lost fs) 0 ≡ a.lost + cond b (a.pending + cond b (1 + lost fs) 0) 0
    go true = omega arith
    go false = refl
tally_lost a (suc k ∷ fs) = tally_lost (note a (suc k)) fs ∙ go (some fs) refl
  where
    go : (b : Bool) → some fs ≡ b → a.lost + a.pending + cond b (0 + lost fs) 0 ≡ a.lost + (a.pending + lost fs)
    go true e = omega arith
    go false e = omega (arith, none_lost fs e)

pub tally_extra : (a : Ledger) (fs : List ℕ) → (tally a fs).extra ≡ a.extra + surplus fs
unfolding tally surplus
tally_extra a [] = omega arith
tally_extra a (zero ∷ fs) = tally_extra (note a 0) fs
tally_extra a (suc k ∷ fs) = tally_extra (note a (suc k)) fs ∙ omega arith

-- ---- a channel of the receiver's, beside the number q that the sender sends next

abbrev pub gap_at : Channel → ℕ → ℕ
gap_at l q = gap_of q l.counter.next

abbrev pub anew : Channel → ℕ → Channel
anew l q = heard_of l q (gap_at l q)

pub record Linked (q : ℕ) (l : Channel) (a : Ledger) : Type 0 where
  pub low : l.counter.next < 256
  pub number : q ≡ (l.counter.next + a.pending) % 256
  pub few : a.pending ≤ 254
  pub missing : l.missing ≡ a.lost % 2 ^ 32
  pub repeats : l.repeats ≡ a.extra % 2 ^ 32

pub linked_as : {q q' : ℕ} {l l' : Channel} {a : Ledger} → q' ≡ q → l' ≡ l → Linked q l a → Linked q' l' a
linked_as d e h = rw (d, e) h

module _ {q : ℕ} {l : Channel} {a : Ledger} (h : Linked q l a) where
  pub gap_is : gap_at l q ≡ a.pending
  gap_is = omega arith

  pub not_repeat : is_repeat l (gap_at l q) ≡ false
  unfolding is_repeat
  not_repeat = simp (ne_eqb (gap_at l q) 255 (omega (arith, gap_is)), and-false)

  pub lose : a.pending < 254 → Linked ((q + 1) % 256) l (note a 0)
  lose k = record { low = h.low; number = omega arith; few = omega arith; missing = h.missing; repeats = h.repeats }

  hear : Linked ((q + 1) % 256) (anew l q) (note a 1)
  hear = record { low = omega arith; number = omega arith; few = omega arith; missing = omega (arith, gap_is, h.missing); repeats = h.repeats ∙ omega arith }

-- a channel after k repeats
abbrev pub again : ℕ → Channel → Channel
again zero l = l
again (suc k) l = again k (repeated l)

hear_again : (k q : ℕ) (l : Channel) (a : Ledger) → Linked q l a → Linked q (again k l) (record { pending = a.pending; lost = a.lost; extra = a.extra + k })
hear_again zero q l a h = record { low = h.low; number = h.number; few = h.few; missing = h.missing; repeats = h.repeats ∙ omega arith }
hear_again (suc k) q l a h =
    let b : Ledger = record { pending = a.pending; lost = a.lost; extra = a.extra + 1 } in
    let h' : Linked q (repeated l) b = record { low = h.low; number = h.number; few = h.few; missing = h.missing; repeats = omega (arith, h.repeats) } in
    let r = hear_again k q (repeated l) b h' in
    record { low = r.low; number = r.number; few = r.few; missing = r.missing; repeats = r.repeats ∙ omega arith }

-- a transfer that arrives with k surplus copies
pub heard : (k : ℕ) {q : ℕ} {l : Channel} {a : Ledger} → Linked q l a → Linked ((q + 1) % 256) (again k (anew l q)) (note a (suc k))
heard k {q} {l} {a} h =
    let r = hear_again k ((q + 1) % 256) (anew l q) (note a 1) (hear h) in
    record { low = r.low; number = r.number; few = r.few; missing = r.missing; repeats = r.repeats ∙ omega arith }

-- a channel whose last number was q
pub record Last (q : ℕ) (l : Channel) : Type 0 where
  pub heard : l.heard ≡ true
  pub expected : l.counter.next ≡ (q + 1) % 256
  pub low : q < 256

pub is_repeat_lem : {q : ℕ} {l : Channel} → Last q l → is_repeat l (gap_at l q) ≡ true
unfolding is_repeat
is_repeat_lem {q} {l} h = simp (h.heard, eq-eqb (gap_at l q) 255 (omega arith))
