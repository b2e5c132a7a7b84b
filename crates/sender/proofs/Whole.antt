-- A cargo sent call by call: how many calls it takes, what they carry, and how their numbers run.
use Prim.Native.Nat.{ℕ, zero, suc, ◌≤◌, ◌<◌, ◌-◌, ◌+◌}
use mathlib.Core.Path.{◌≡◌, refl, sym, ap, ◌∙◌}
use mathlib.Core.List.{List, ◌∷◌, ◌++◌, append-nil}
use mathlib.Core.Bool.{Bool, true, false}
use native.Mathlib.Omega.{arith}
use native.Mathlib.Nat.{div-eq_of_lt, add-div_right}
use lib.Dec.{leb}
use Rattle.std.specs.Prelude.{Option, None, Some, Ok, is_some}
use lib.ListN.{length, take, drop, get_or, set, length-drop, take-append-drop}
use lib.Seq.{take_all, drop-drop, get_or-set_same, set-set, lt-length-set}
use borrow.Author.Tests.{lt-ltb, le-ltb, le-leb, lt-leb, eq-eqb, ne_eqb, leb-true, leb-false}
use Rattle.verdict.specs.declared.Settings.{Settings}
use Rattle.header.specs.Sequence.{fresh_counter, stepped}
use Rattle.joining.specs.declared.Cargo.{Cargo}
use Rattle.receiver.specs.State as receiver
use Rattle.joining.specs.Joining.{held_of}
use Rattle.receiver.specs.State.{in_range, fits}
use Rattle.receiver.proofs.Soundness.{InRange}
use Rattle.sender.specs.declared.Sender.{Sender}
use Rattle.sender.specs.State.{begun, sound}
use Rattle.sender.specs.Send.{size_of, differs, judge, judge_send, size_at, transfer_at, underway_at, after, out_after}
use Rattle.sender.specs.Whole.{Calls, calls, calls_for, joined, numbers_of, numbers_from, forward, SentWhole}
use Rattle.sender.proofs.Ready.{sized}
use Rattle.sender.proofs.Transfer.{passed, sent_is, written_is, out_length}

-- one call more for each T-4 bytes
pub calls_last : (largest left : ℕ) → 5 ≤ largest → 1 ≤ left → left ≤ largest - 4 → calls_for largest left ≡ 1
unfolding calls_for
calls_last largest left a b c =
    let e : left + (largest - 5) ≡ (left - 1) + (largest - 4) = omega arith in
    rw e (add-div_right (left - 1) {k = largest - 4} (omega arith) ∙ ap (λ (k : ℕ). k + 1) (div-eq_of_lt {n = left - 1} {m = largest - 4} (omega arith)))

pub calls_more : (largest left : ℕ) → 5 ≤ largest → largest - 4 < left → calls_for largest left ≡ calls_for largest (left - (largest - 4)) + 1
unfolding calls_for
calls_more largest left a b =
    let e : left + (largest - 5) ≡ (left - (largest - 4) + (largest - 5)) + (largest - 4) = omega arith in
    rw e (add-div_right (left - (largest - 4) + (largest - 5)) {k = largest - 4} (omega arith))

-- the tests pass in the middle of a cargo
goes_on : (settings : Settings) (largest channel m done room : ℕ) → InRange settings → 5 ≤ largest → largest ≤ settings.limit → channel < settings.count → m ≤ settings.limit - 4
    → 1 ≤ done → done < m → size_of largest (m - done) ≤ room → judge settings largest (Some record { channel = channel; total = m; held = done }) channel m room ≡ Ok tt
unfolding judge sound begun receiver.sound in_range fits differs
goes_on settings largest channel m done room r a b c d e f g =
    simp (
      le-leb 5 settings.limit r.low,
      le-leb settings.limit 32766 r.high,
      le-leb 1 settings.count r.some,
      le-leb settings.count 32 r.few,
      lt-ltb channel settings.count c,
      le-leb 1 m (omega arith),
      le-leb m (settings.limit - 4) d,
      lt-ltb done m f,
      le-leb 5 largest a,
      le-leb largest settings.limit b,
      le-leb 1 done e,
      lt-leb settings.count channel c,
      ne_eqb m 0 (omega arith),
      le-ltb (settings.limit - 4) m d,
      eq-eqb channel channel refl,
      eq-eqb m m refl,
      le-ltb room (size_of largest (m - done)) g,
    )

module _ (channel : ℕ) (cargo : List ℕ) where
  abbrev m : ℕ
  m = length cargo

  -- the sender once n calls have sent what was left
  abbrev done : ℕ → Sender → Sender
  done n s =
      record {
        settings = s.settings;
        largest = s.largest;
        counters = set s.counters channel (forward n (get_or s.counters channel fresh_counter));
        underway = None;
      }

  -- n calls send what is left of the cargo
  record Sends (n : ℕ) (s : Sender) (out : List ℕ) : Type 0 where
    ends : (calls n s channel cargo out).sender ≡ done n s
    earlier : (k : ℕ) → 1 ≤ k → k < n → is_some (calls k s channel cargo out).sender.underway ≡ true
    carried : joined (calls n s channel cargo out).transfers ≡ drop (held_of s.underway) cargo
    numbers : numbers_of (calls n s channel cargo out).transfers ≡ numbers_from n (get_or s.counters channel fresh_counter)

  module _ (s : Sender) (out : List ℕ) (ok : judge_send s channel m (length out) ≡ Ok tt) where
    abbrev next : Sender
    next = after s channel m

    abbrev with_load : Option Cargo → Sender
    with_load u = record { settings = s.settings; largest = s.largest; counters = next.counters; underway = u }

    abbrev rest : ℕ → Calls
    rest n = calls n next channel cargo (out_after s channel cargo out)

    one_call : (n : ℕ) → calls (suc n) s channel cargo out ≡ record { sender = (rest n).sender; transfers = transfer_at s channel cargo ∷ (rest n).transfers }
    unfolding calls
    one_call n = rw (sent_is s channel cargo out ok, written_is s channel cargo out ok)

    -- the last transfer
    last_size : m - held_of s.underway ≤ s.largest - 4 → size_at s m - 4 ≡ m - held_of s.underway
    unfolding size_of
    last_size l = let r = (passed s channel cargo out ok).fits.five in omega arith

    last_load : m - held_of s.underway ≤ s.largest - 4 → next.underway ≡ None
    unfolding underway_at
    last_load l =
        let a = (passed s channel cargo out ok).less in
        let e : held_of s.underway + (m - held_of s.underway) ≡ m = omega arith in
        rw (last_size l, e) (simp (le-ltb m m (omega arith)))

    last_bytes : m - held_of s.underway ≤ s.largest - 4 → take (size_at s m - 4) (drop (held_of s.underway) cargo) ≡ drop (held_of s.underway) cargo
    last_bytes l = rw (last_size l) (take_all (m - held_of s.underway) (drop (held_of s.underway) cargo) (simp length-drop (omega arith)))

    last : m - held_of s.underway ≤ s.largest - 4 → Sends 1 s out
    unfolding calls joined numbers_of numbers_from forward
    last l =
        record {
          ends = ap (λ (c : Calls). c.sender) (one_call 0) ∙ ap (λ (u : Option Cargo). with_load u) (last_load l);
          earlier = λ k a b. absurd (omega arith);
          carried = ap (λ (c : Calls). joined c.transfers) (one_call 0) ∙ (append-nil (take (size_at s m - 4) (drop (held_of s.underway) cargo)) ∙ last_bytes l);
          numbers = ap (λ (c : Calls). numbers_of c.transfers) (one_call 0);
        }

    -- a transfer before the last
    full_size : s.largest - 4 < m - held_of s.underway → size_at s m - 4 ≡ s.largest - 4
    unfolding size_of
    full_size l = omega arith

    full_load : s.largest - 4 < m - held_of s.underway → next.underway ≡ Some record { channel = channel; total = m; held = held_of s.underway + (s.largest - 4) }
    unfolding underway_at
    full_load l = rw (full_size l) (simp (lt-ltb (held_of s.underway + (s.largest - 4)) m (omega arith)))

    full_bytes : s.largest - 4 < m - held_of s.underway → take (size_at s m - 4) (drop (held_of s.underway) cargo) ++ drop (held_of next.underway) cargo ≡ drop (held_of s.underway) cargo
    full_bytes l =
        let x = drop (held_of s.underway) cargo in
        let w = s.largest - 4 in
        ap (λ (k : ℕ). take k x ++ drop (held_of next.underway) cargo) (full_size l)
        ∙ ap (λ (u : Option Cargo). take w x ++ drop (held_of u) cargo) (full_load l)
        ∙ ap (λ (y : List ℕ). take w x ++ y) (sym (drop-drop w (held_of s.underway) cargo))
        ∙ take-append-drop w x

    first_on : s.largest - 4 < m - held_of s.underway → is_some (rest 0).sender.underway ≡ true
    unfolding calls
    first_on l = ap is_some (full_load l)

    earlier_on : (n : ℕ) → s.largest - 4 < m - held_of s.underway → Sends n next (out_after s channel cargo out)
        → (k : ℕ) → 1 ≤ k → k < suc n → is_some (calls k s channel cargo out).sender.underway ≡ true
    earlier_on n l h zero a b = absurd (omega arith)
    earlier_on n l h (suc zero) a b = ap (λ (c : Calls). is_some c.sender.underway) (one_call 0) ∙ first_on l
    earlier_on n l h (suc (suc k)) a b = ap (λ (c : Calls). is_some c.sender.underway) (one_call (suc k)) ∙ h.earlier (suc k) (omega arith) (omega arith)

    more : s.largest - 4 < m - held_of s.underway → channel < length s.counters → (n : ℕ) → Sends n next (out_after s channel cargo out) → Sends (suc n) s out
    unfolding joined numbers_of numbers_from forward
    more l c n h =
        let same = get_or-set_same s.counters channel (stepped (get_or s.counters channel fresh_counter)) fresh_counter c in
        let over = set-set s.counters channel (stepped (get_or s.counters channel fresh_counter)) in
        record {
          ends = ap (λ (x : Calls). x.sender) (one_call n) ∙ h.ends ∙ rw (same, over _);
          earlier = earlier_on n l h;
          carried = ap (λ (x : Calls). joined x.transfers) (one_call n) ∙ ap (λ (x : List ℕ). take (size_at s m - 4) (drop (held_of s.underway) cargo) ++ x) h.carried ∙ full_bytes l;
          numbers = ap (λ (x : Calls). numbers_of x.transfers) (one_call n) ∙ ap (λ (x : List ℕ). (get_or s.counters channel fresh_counter).next ∷ x) (h.numbers ∙ ap (numbers_from n) same);
        }

    full_ready : s.largest - 4 < m - held_of s.underway → judge_send next channel m (length (out_after s channel cargo out)) ≡ Ok tt
    full_ready l =
        let r = passed s channel cargo out ok in
        let f = r.fits in
        let z = (sized s.largest (m - (held_of s.underway + (s.largest - 4))) f.five).most in
        let y = full_size l in
        let u = r.roomy in
        let a = f.five in
        rw (full_load l, out_length s channel cargo out ok)
        (goes_on s.settings s.largest channel m (held_of s.underway + (s.largest - 4)) (length out) f.range f.five f.most r.below r.short (omega arith) (omega arith) (omega arith))

  no_calls : (largest left : ℕ) → 5 ≤ largest → 1 ≤ left → calls_for largest left ≡ 0 → ⊥
  no_calls largest left a b e = go (leb left (largest - 4)) refl
    where
      go : (t : Bool) → leb left (largest - 4) ≡ t → ⊥
      go true q = let k = calls_last largest left a b (leb-true _ _ q) in omega arith
      go false q = let k = calls_more largest left a (leb-false _ _ q) in omega arith

  -- n calls more, where each sender that is ready for n of them sends what is left
  step : (n : ℕ) → ((s : Sender) (out : List ℕ) → judge_send s channel m (length out) ≡ Ok tt → held_of s.underway < m → channel < length s.counters
      → calls_for s.largest (m - held_of s.underway) ≡ n → Sends n s out)
      → (s : Sender) (out : List ℕ) → judge_send s channel m (length out) ≡ Ok tt → held_of s.underway < m → channel < length s.counters
      → calls_for s.largest (m - held_of s.underway) ≡ suc n → Sends (suc n) s out
  step n sends s out ok less c e = go (leb (m - held_of s.underway) (s.largest - 4)) refl
    where
      a : 5 ≤ s.largest
      a = (passed s channel cargo out ok).fits.five

      go : (t : Bool) → leb (m - held_of s.underway) (s.largest - 4) ≡ t → Sends (suc n) s out
      go true q =
          let l = leb-true (m - held_of s.underway) (s.largest - 4) q in
          let k = calls_last s.largest (m - held_of s.underway) a (omega arith) l in
          let z : n ≡ 0 = omega arith in
          rw z (last s out ok l)
      go false q =
          let l = leb-false (m - held_of s.underway) (s.largest - 4) q in
          let k = calls_more s.largest (m - held_of s.underway) a l in
          let h : held_of (after s channel m).underway ≡ held_of s.underway + (s.largest - 4) = ap held_of (full_load s out ok l) in
          let y : m - (held_of s.underway + (s.largest - 4)) ≡ m - held_of s.underway - (s.largest - 4) = omega arith in
          let d : calls_for s.largest (m - held_of s.underway - (s.largest - 4)) ≡ n = omega arith in
          let x = sends (after s channel m) (out_after s channel cargo out) (full_ready s out ok l) (rw h (omega arith)) (lt-length-set s.counters channel _ c) (rw (h, y) d) in
          more s out ok l c n x

  sends : (n : ℕ) (s : Sender) (out : List ℕ) → judge_send s channel m (length out) ≡ Ok tt → held_of s.underway < m → channel < length s.counters
      → calls_for s.largest (m - held_of s.underway) ≡ n → Sends n s out
  sends zero s out ok less c e = absurd (no_calls s.largest (m - held_of s.underway) (passed s channel cargo out ok).fits.five (omega arith) e)
  sends (suc n) s out ok less c e = step n (sends n) s out ok less c e

-- a sender that has none under way, and takes the cargo up
pub sent_whole : (s : Sender) (channel : ℕ) (cargo out : List ℕ) → s.underway ≡ None → channel < length s.counters
    → judge_send s channel (length cargo) (length out) ≡ Ok tt → SentWhole s channel cargo out
sent_whole s channel cargo out idle c ok =
    let h : held_of s.underway ≡ 0 = ap held_of idle in
    let b = (passed s channel cargo out ok).some in
    let z : length cargo - 0 ≡ length cargo = omega arith in
    let p = sends channel cargo (calls_for s.largest (length cargo)) s out ok (rw h (omega arith)) c (rw (h, z)) in
    record { ends = p.ends; earlier = p.earlier; carried = p.carried ∙ rw h; numbers = p.numbers }
