-- What a call of the sender does, at each place of a cargo.
use Prim.Native.Nat.{ℕ, zero, suc, ◌+◌, ◌-◌, ◌≤◌, ◌<◌, min}
use native.Mathlib.Omega.{arith}
use mathlib.Core.Bool.{true, false, ◌&&◌}
use mathlib.Core.List.{List, ◌++◌}
use mathlib.Core.Path.{◌≡◌, refl, sym, ◌∙◌, ap}
use lib.ListN.{length, take, get_or, set}
use lib.Dec.{ltb}
use borrow.Author.Tests.{ltb-true, le-leb, lt-leb, lt-ltb, le-ltb, eq-eqb, ne_eqb}
use Rattle.header.specs.declared.sequence.Counter.{Counter}
use Rattle.header.specs.Header.{header_bytes}
use Rattle.header.specs.Sequence.{fresh_counter, stepped}
use Rattle.std.specs.Prelude.{Option, None, Ok}
use Rattle.std.specs.Result.{result_unwrap_or}
use Rattle.joining.specs.declared.Cargo.{Cargo as Load}
use Rattle.joining.specs.Joining.{held_of}
use Rattle.receiver.specs.State.{in_range, fits, sound}
use Rattle.sender.specs.declared.Sender.{Sender}
use Rattle.sender.specs.State.{begun, sound as soundly, sound_sender}
use Rattle.sender.specs.Send.{size_of, differs, judge, judge_send, sent, out_after, abandoned}
use Rattle.laws.proofs.Tests.{by_cases, and-true}
use Rattle.sender.proofs.Ready.{Fit}
use Rattle.sender.proofs.Transfer.{sent_is, written_is, out_length}
use Rattle.link.specs.Run.{Setup, Cargo}
use Rattle.link.proofs.Places.{load, way_at, way_mid, way_load, next, next_more, header_at, body_at, transfer_of}

-- settings in range, as the proofs of the sender have them
abbrev pub InRange : Setup → Type 0
InRange g = Fit g.settings g.largest None

pub in_range_lem : {g : Setup} → InRange g → in_range g.settings ≡ true
unfolding in_range
in_range_lem {g} R = simp (le-leb 5 g.settings.limit R.range.low, le-leb g.settings.limit 32766 R.range.high, le-leb 1 g.settings.count R.range.some, le-leb g.settings.count 32 R.range.few)

-- a cargo that the sender takes
pub record Fits (g : Setup) (x : Cargo) : Type 0 where
  pub inside : x.channel < g.settings.count
  pub some_bytes : 1 ≤ length x.bytes
  pub few_bytes : length x.bytes ≤ g.settings.limit - 4

abbrev pub sender_of : Setup → List Counter → Option Load → Sender
sender_of g ns underway = record { settings = g.settings; largest = g.largest; counters = ns; underway = underway }

-- the number that the sender sends next on a channel, and the numbers once it did
abbrev pub number_at : List Counter → ℕ → ℕ
number_at ns c = (get_or ns c fresh_counter).next

abbrev pub up : List Counter → ℕ → List Counter
up ns c = set ns c (stepped (get_or ns c fresh_counter))

-- the output after the transfer at place o
abbrev pub over : Setup → Cargo → List Counter → ℕ → List ℕ → List ℕ
over g x ns o out = out_after (sender_of g ns (way_at x.channel (length x.bytes) o)) x.channel x.bytes out

module _ {g : Setup} (R : InRange g) {x : Cargo} (F : Fits g x) where
  abbrev at : ℕ → Option Load
  at o = way_at x.channel (length x.bytes) o

  -- at every place what is under way is in order, for the receiver and for the sender
  pub fits_at : (o : ℕ) → fits g.settings (at o) ≡ true
  unfolding way_at fits
  fits_at o =
      by_cases (λ (w : Option Load). fits g.settings w ≡ true) (ltb 0 o && ltb o (length x.bytes)) (load x.channel (length x.bytes) o) None
      (λ e. simp (lt-ltb x.channel g.settings.count F.inside, le-leb 1 (length x.bytes) F.some_bytes, le-leb (length x.bytes) (g.settings.limit - 4) F.few_bytes, (and-true (ltb 0 o) _ e).1))
      (λ e. refl)

  begun_at : (o : ℕ) → begun (at o) ≡ true
  unfolding way_at begun
  begun_at o =
      by_cases (λ (w : Option Load). begun w ≡ true) (ltb 0 o && ltb o (length x.bytes)) (load x.channel (length x.bytes) o) None
      (λ e. le-leb 1 o (ltb-true 0 o (and-true (ltb 0 o) _ e).0))
      (λ e. refl)

  held_at : (o : ℕ) → o < length x.bytes → held_of (at o) ≡ o
  unfolding way_at
  held_at zero k = refl
  held_at (suc o) k = rw (way_mid x.channel (length x.bytes) (suc o) (omega arith) k)

  same_at : (o : ℕ) → o < length x.bytes → differs (at o) x.channel (length x.bytes) ≡ false
  unfolding way_at differs
  same_at zero k = refl
  same_at (suc o) k = rw (way_mid x.channel (length x.bytes) (suc o) (omega arith) k) (simp (eq-eqb x.channel x.channel refl, eq-eqb (length x.bytes) (length x.bytes) refl))

  sound_at : (ns : List Counter) (o : ℕ) → sound_sender (sender_of g ns (at o)) ≡ true
  unfolding soundly sound
  sound_at ns o = simp (in_range_lem R, fits_at o, begun_at o, le-leb 5 g.largest R.five, le-leb g.largest g.settings.limit R.most)

  pub abandon_at : (ns : List Counter) (o : ℕ) → result_unwrap_or (abandoned (sender_of g ns (at o))) (sender_of g ns (at o)) ≡ sender_of g ns None
  unfolding abandoned
  abandon_at ns o = simp (sound_at ns o)

  module _ (ns : List Counter) (out : List ℕ) (room : g.largest ≤ length out) (o : ℕ) (mid : o < length x.bytes) where
    judged_at : judge_send (sender_of g ns (at o)) x.channel (length x.bytes) (length out) ≡ Ok tt
    unfolding judge size_of
    judged_at =
        simp (
          sound_at ns o,
          lt-leb g.settings.count x.channel F.inside,
          ne_eqb (length x.bytes) 0 (omega (arith, F.some_bytes)),
          le-ltb (g.settings.limit - 4) (length x.bytes) F.few_bytes,
          same_at o mid,
          held_at o mid,
          le-ltb (length out) (min g.largest (length x.bytes - o + 4)) (omega arith),
        )

    pub sent_at : sent (sender_of g ns (at o)) x.channel (length x.bytes) (length out)
        ≡ Ok record { sender = sender_of g (up ns x.channel) (at (next g.largest x o)); written = size_of g.largest (length x.bytes - o) }
    sent_at =
        sent_is (sender_of g ns (at o)) x.channel x.bytes out judged_at
        ∙ simp (held_at o mid, way_load x.channel (length x.bytes) (next g.largest x o) (omega (arith, next_more g.largest x o R.five mid)))

    -- what is written at the front of the output is the transfer
    pub over_take : take (size_of g.largest (length x.bytes - o)) (over g x ns o out) ≡ transfer_of g.largest x o (number_at ns x.channel)
    unfolding transfer_of
    over_take =
        ap (λ (k : ℕ). take (size_of g.largest (length x.bytes - k)) (over g x ns o out)) (sym (held_at o mid))
        ∙ written_is (sender_of g ns (at o)) x.channel x.bytes out judged_at
        ∙ ap (λ (k : ℕ). header_bytes (header_at x k (number_at ns x.channel)) ++ body_at g.largest x k) (held_at o mid)

    pub over_room : g.largest ≤ length (over g x ns o out)
    over_room = rw (out_length (sender_of g ns (at o)) x.channel x.bytes out judged_at) room
