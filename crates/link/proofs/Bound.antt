-- 254 is the most: what 255 losses in a row do, and that no receiver can do better.
use Prim.Native.Nat.{ℕ, zero, suc, ◌+◌, ◌%◌}
use native.Mathlib.Omega.{arith}
use mathlib.Core.List.{List, [], ◌∷◌, ◌++◌}
use mathlib.Core.Path.{◌≡◌, refl, sym, ◌∙◌, ap}
use lib.ListN.{replicate}
use Rattle.header.specs.Sequence.{fresh_counter}
use Rattle.std.specs.Prelude.{None}
use Rattle.receiver.specs.declared.Receiver.{Receiver}
use Rattle.receiver.specs.State.{fresh_receiver, channel_at}
use Rattle.link.specs.Run.{Cargo, Shipment, World, Hear, Reply, receiving, handed, ship, run, outcome}
use Rattle.link.specs.Demand.{longest, Assumed, KeptUpTo}
use Rattle.link.specs.Refuted.{small, zeros, cargo, sends, shows, seen, Refuted}
use Rattle.link.proofs.Refute.{view, allowed, allowed_is, same, due, refute}

-- cargoes of one byte: each a transfer, that arrives once, twice, or not at all
abbrev byte : List ℕ → Shipment
byte fates = sends (cargo 0 (7 ∷ [])) fates

abbrev arrived : List Shipment
arrived = byte (1 ∷ []) ∷ []

abbrev lost : ℕ → List Shipment
lost n = replicate n (byte (0 ∷ []))

abbrev one : Cargo
one = cargo 0 (7 ∷ [])

-- 254 losses after an arrival are counted right
pub at_254 : seen receiving (arrived ++ lost 254 ++ arrived) ≡ shows (one ∷ one ∷ []) (254 ∷ 0 ∷ []) (0 ∷ 0 ∷ [])
unfolding view
at_254 = refl

-- demand 3 speaks of them: they are allowed, and again after each arrival
pub allowed_254 : Assumed longest small zeros zeros (lost 254 ++ arrived ++ lost 254 ++ arrived)
unfolding allowed
allowed_254 = allowed_is 254 (lost 254 ++ arrived ++ lost 254 ++ arrived) refl

-- so are 255 before a channel's first arrival
pub first_255 : seen receiving (lost 255 ++ arrived) ≡ shows (one ∷ []) (255 ∷ 0 ∷ []) (0 ∷ 0 ∷ [])
unfolding view
first_255 = refl

-- but the arrival after 255 losses on a heard channel is taken for a repeat
pub at_255 : Refuted 255 receiving (arrived ++ lost 255 ++ arrived) (shows (one ∷ []) (0 ∷ 0 ∷ []) (1 ∷ 0 ∷ []))
unfolding allowed view same due
at_255 = refute refl refl refl

-- ---- no receiving function can tell that arrival from a repeat

abbrev twice : List Shipment
twice = byte (2 ∷ []) ∷ []

abbrev missing : Hear → List Shipment → ℕ
missing hear xs = (channel_at (outcome hear small zeros zeros xs).receiver 0).missing

-- a byte lost steps the sender's number, whoever hears
module _ (hear : Hear) (r : Receiver) (buffer : List ℕ) (got : List Cargo) where
  -- the sender's next number is q, and p was its last
  abbrev at : ℕ → ℕ → World
  at p q =
      record {
        sender = record { settings = record { limit = 12; count = 2 }; largest = 8; counters = record { next = q } ∷ replicate 31 fresh_counter; underway = None };
        receiver = r;
        buffer = buffer;
        out = 5 ∷ 0 ∷ 0 ∷ p ∷ 7 ∷ 0 ∷ 0 ∷ 0 ∷ [];
        got = got;
      }

  abbrev past : ℕ → ℕ → ℕ → World
  past zero p q = at p q
  past (suc n) p q = past n q ((q + 1) % 256)

  byte_lost : (p q : ℕ) → ship hear 8 (byte (0 ∷ [])) (at p q) ≡ at q ((q + 1) % 256)
  unfolding view
  byte_lost p q = refl

  bytes_lost : (n p q : ℕ) (xs : List Shipment) → run hear 8 (lost n ++ xs) (at p q) ≡ run hear 8 xs (past n p q)
  unfolding run
  bytes_lost zero p q xs = refl
  bytes_lost (suc n) p q xs = ap (λ (w : World). run hear 8 (lost n ++ xs) w) (byte_lost p q) ∙ bytes_lost n q ((q + 1) % 256) xs

same_wire : (hear : Hear) → missing hear twice ≡ missing hear (arrived ++ lost 255 ++ arrived)
unfolding view
same_wire hear =
    let h : Reply = hear (fresh_receiver small.settings) zeros (5 ∷ 0 ∷ 0 ∷ 0 ∷ 7 ∷ []) in
    sym (ap (λ (w : World). (channel_at w.receiver 0).missing) (bytes_lost hear h.received.receiver h.buffer (handed h.received.answer.kind h.buffer) 255 0 1 arrived))

-- on a wire that may lose 255 in a row no receiving function at all keeps demand 3
pub no_receiver : (hear : Hear) → KeptUpTo 255 hear → ⊥
unfolding allowed due
no_receiver hear K =
    let a : missing hear twice ≡ 0 = (K small zeros zeros twice (allowed_is 255 twice refl)).missing 0 (omega arith) in
    let b : missing hear (arrived ++ lost 255 ++ arrived) ≡ 255 = (K small zeros zeros (arrived ++ lost 255 ++ arrived) (allowed_is 255 (arrived ++ lost 255 ++ arrived) refl)).missing 0 (omega arith) in
    absurd (omega (arith, a, b, same_wire hear))
