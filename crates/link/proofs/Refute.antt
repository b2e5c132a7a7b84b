-- A run on the small link that computes refutes a receiving function: what demand 3 assumes, and what it concludes, as tests.
use Prim.Native.Nat.{ℕ, zero, suc, ◌%◌, ◌^◌, ◌<◌}
use native.Mathlib.Omega.{arith}
use mathlib.Core.Bool.{Bool, true, false, ◌&&◌, true≢false}
use mathlib.Core.List.{List, [], ◌∷◌}
use mathlib.Core.Path.{◌≡◌, refl, sym, ◌∙◌, ap}
use lib.ListN.{length}
use lib.Dec.{ltb, leb, eqb}
use lib.Pointwise.{pointwise, bytes_decides}
use borrow.Author.Tests.{leb-true, ltb-true, eq-eqb}
use Rattle.header.specs.Header.{reading_of, reading_of_bytes}
use Rattle.laws.proofs.Tests.{and-true}
use Rattle.receiver.specs.State.{in_range, fits, sound}
use Rattle.verdict.specs.Judge.{judge, judge_reading, judge_header}
use Rattle.joining.specs.Channel.{is_repeat}
use Rattle.joining.specs.Joining.{carried_of, join, place}
use Rattle.step.specs.Step.{ended, go_on, step_of}
use Rattle.receiver.specs.Take.{step_on}
use Rattle.sender.specs.State.{begun, sound as sound_sender}
use Rattle.sender.specs.Send.{size_of, differs, judge as judge_send, underway_at, out_after, abandoned}
use Rattle.sender.specs.Whole.{calls_for}
use Rattle.link.specs.Run.{Cargo, Shipment, Hear, start, arrive, arrivals, send_one, send_all, ship, run, finished}
use Rattle.link.specs.Demand.{fates_of, all_arrived, wanted, LossesUpTo, every, some, lost, surplus, AllSendable, Assumed, Concluded}
use Rattle.link.specs.Rules.{place_by, go_on_by, step_by, receiving_by}
use Rattle.link.specs.Refuted.{small, zeros, Seen, shows, seen, Refuted}

-- what is seen, with every definition opened, so that it computes
unfoldable pub view : Hear → List Shipment → Seen
unfolding reading_of reading_of_bytes in_range fits sound judge judge_reading judge_header is_repeat carried_of join place ended go_on step_of step_on begun sound_sender size_of differs judge_send underway_at out_after abandoned calls_for start arrive arrivals send_one send_all ship run finished place_by go_on_by step_by receiving_by
view hear xs = seen hear xs

-- ---- what is assumed, as a test

unfoldable pub few : ℕ → ℕ → List ℕ → Bool
few most before [] = true
few most before (zero ∷ fs) = ltb before most && few most (suc before) fs
few most before (suc k ∷ fs) = few most 0 fs

few_is : (most before : ℕ) (fs : List ℕ) → few most before fs ≡ true → LossesUpTo most before fs
unfolding few LossesUpTo
few_is most before [] e = tt
few_is most before (zero ∷ fs) e = let b = and-true (ltb before most) (few most (suc before) fs) e in (ltb-true before most b.0, few_is most (suc before) fs b.1)
few_is most before (suc k ∷ fs) e = few_is most 0 fs e

unfoldable pub sendable : List Shipment → Bool
sendable [] = true
sendable (x ∷ xs) =
    let m = length x.cargo.bytes in
    ltb x.cargo.channel 2 && (leb 1 m && (leb m 8 && (leb (length x.fates) (calls_for 8 m) && sendable xs)))

sendable_is : (xs : List Shipment) → sendable xs ≡ true → AllSendable small xs
unfolding sendable AllSendable
sendable_is [] e = tt
sendable_is (x ∷ xs) e =
    let a = and-true _ _ e in
    let b = and-true _ _ a.1 in
    let c = and-true _ _ b.1 in
    let d = and-true _ _ c.1 in
    (record { channel = ltb-true _ _ a.0; some_bytes = leb-true _ _ b.0; few_bytes = leb-true _ _ c.0; transfers = leb-true _ _ d.0 }, sendable_is xs d.1)

unfoldable pub allowed : ℕ → List Shipment → Bool
unfolding few sendable fates_of calls_for
allowed most xs = sendable xs && (few most 0 (fates_of 0 xs) && few most 0 (fates_of 1 xs))

pub allowed_is : (most : ℕ) (xs : List Shipment) → allowed most xs ≡ true → Assumed most small zeros zeros xs
unfolding allowed in_range fits sound begun sound_sender
allowed_is most xs e =
    let a = and-true (sendable xs) (few most 0 (fates_of 0 xs) && few most 0 (fates_of 1 xs)) e in
    record {
      settings = refl;
      buffer_long = omega arith;
      output_long = omega arith;
      cargoes = sendable_is xs a.0;
      wire = wire (and-true _ _ a.1);
    }
  where
    wire : (few most 0 (fates_of 0 xs) ≡ true) × (few most 0 (fates_of 1 xs) ≡ true) → (c : ℕ) → c < 2 → LossesUpTo most 0 (fates_of c xs)
    wire f zero h = few_is most 0 (fates_of 0 xs) f.0
    wire f (suc zero) h = few_is most 0 (fates_of 1 xs) f.1
    wire f (suc (suc c)) h = absurd (omega arith)

-- ---- what is concluded, as a test

abbrev same_cargo : Cargo → Cargo → Bool
same_cargo x y = eqb x.channel y.channel && pointwise eqb x.bytes y.bytes

unfoldable pub same : Seen → Seen → Bool
same a b = pointwise same_cargo a.got b.got && (pointwise eqb a.missing b.missing && pointwise eqb a.repeats b.repeats)

row_same : (xs : List ℕ) → pointwise eqb xs xs ≡ true
row_same xs = (bytes_decides xs xs).1 refl

cargoes_same : (xs : List Cargo) → pointwise same_cargo xs xs ≡ true
cargoes_same [] = refl
cargoes_same (x ∷ xs) = rw (eq-eqb x.channel x.channel refl, row_same x.bytes) (cargoes_same xs)

same_seen : (a : Seen) → same a a ≡ true
unfolding same
same_seen a = rw (cargoes_same a.got, row_same a.missing) (row_same a.repeats)

-- what is to be seen
unfoldable pub due : List Shipment → Seen
unfolding wanted all_arrived finished calls_for every some lost surplus fates_of
due xs = shows (wanted 8 xs) (lost (fates_of 0 xs) % 2 ^ 32 ∷ lost (fates_of 1 xs) % 2 ^ 32 ∷ []) (surplus (fates_of 0 xs) % 2 ^ 32 ∷ surplus (fates_of 1 xs) % 2 ^ 32 ∷ [])

pub concluded_due : (hear : Hear) (xs : List Shipment) → Concluded hear small zeros zeros xs → seen hear xs ≡ due xs
unfolding due
concluded_due hear xs K i =
    record {
      got = K.delivered i;
      missing = K.missing 0 (omega arith) i ∷ K.missing 1 (omega arith) i ∷ [];
      repeats = K.repeats 0 (omega arith) i ∷ K.repeats 1 (omega arith) i ∷ [];
    }

-- ---- a run that is allowed, and shows something else

pub refute : {most : ℕ} {hear : Hear} {xs : List Shipment} {s : Seen} → allowed most xs ≡ true → view hear xs ≡ s → same s (due xs) ≡ false → Refuted most hear xs s
unfolding view
refute {most} {hear} {xs} {s} f e d =
    record {
      allowed = allowed_is most xs f;
      sees = e;
      wrong = λ K. true≢false (sym (same_seen (due xs)) ∙ ap (λ (y : Seen). same y (due xs)) (sym (concluded_due hear xs K) ∙ e) ∙ d);
    }
