-- Hearing the transfers that arrive, one by one, is the run; and none of them is longer than the largest transfer.
use Prim.Native.Nat.{ℕ, zero, suc, ◌≤◌}
use native.Mathlib.Omega.{arith}
use mathlib.Core.Bool.{Bool, true, false, cond, not}
use mathlib.Core.List.{List, [], ◌∷◌, ◌++◌}
use mathlib.Core.Path.{◌≡◌, refl, sym, ◌∙◌, ap}
use lib.ListN.{length, take, replicate, length-take}
use Rattle.std.specs.Prelude.{Result, Ok, Err}
use Rattle.std.specs.List.{All}
use Rattle.std.proofs.lemmas.List.Elements.{All-nil, All-append, All-replicate}
use Rattle.std.specs.Result.{result_and, result_unwrap_or}
use Rattle.laws.proofs.Tests.{by_cases}
use Rattle.sender.specs.declared.Sender.{Sender}
use Rattle.refusals.specs.declared.Refusal.{Refusal}
use Rattle.sender.specs.declared.Sent.{Sent}
use Rattle.sender.specs.State.{sound_sender}
use Rattle.sender.specs.Send.{size_of, size_at, judge_send, after as left_by, sent, sender_after, written_in, out_after, abandoned}
use Rattle.link.specs.Run as link
use Rattle.link.specs.Run.{Setup, Cargo, Shipment, World, Hear, arrive, arrivals, finished, outcome}
use Rattle.stream.specs.Stream.{Line, send_one, send_all, abandon, ship, run, start}

-- ---- hearing them is the run

module _ (hear : Hear) where
  unfoldable pub hear_all : List (List ℕ) → World → World
  hear_all [] w = w
  hear_all (t ∷ ts) w = hear_all ts (arrive hear t w)

  pub hear_append : (ts us : List (List ℕ)) (w : World) → hear_all (ts ++ us) w ≡ hear_all us (hear_all ts w)
  unfolding hear_all
  hear_append [] us w = refl
  hear_append (t ∷ ts) us w = hear_append ts us (arrive hear t w)

  hear_copies : (k : ℕ) (t : List ℕ) (w : World) → hear_all (replicate k t) w ≡ arrivals hear k t w
  unfolding hear_all arrivals
  hear_copies zero t w = refl
  hear_copies (suc k) t w = hear_copies k t (arrive hear t w)

  -- a world with this sending end
  abbrev sending_by : Sender → List ℕ → World → World
  sending_by s out w = record { sender = s; receiver = w.receiver; buffer = w.buffer; out = out; got = w.got }

  arrivals_by : (k : ℕ) (t : List ℕ) (s : Sender) (out : List ℕ) (w : World) → arrivals hear k t (sending_by s out w) ≡ sending_by s out (arrivals hear k t w)
  unfolding arrivals arrive
  arrivals_by zero t s out w = refl
  arrivals_by (suc k) t s out w = arrivals_by k t s out (arrive hear t w)

  module _ (w : World) where
    -- the world w once it has heard what arrived on a line
    abbrev pub after : Line → World
    after l = sending_by l.sender l.out (hear_all l.arrived w)

    one_after : (x : Cargo) (fate : ℕ) (l : Line) → link.send_one hear x fate (after l) ≡ after (send_one x fate l)
    unfolding link.send_one send_one
    one_after x fate l =
        let s = sent l.sender x.channel (length x.bytes) (length l.out) in
        let o = out_after l.sender x.channel x.bytes l.out in
        let t = take (written_in s) o in
        arrivals_by fate t (sender_after l.sender s) o (hear_all l.arrived w)
        ∙ ap (sending_by (sender_after l.sender s) o) (sym (hear_append l.arrived (replicate fate t) w ∙ hear_copies fate t (hear_all l.arrived w)))

    all_after : (x : Cargo) (fates : List ℕ) (l : Line) → link.send_all hear x fates (after l) ≡ after (send_all x fates l)
    unfolding link.send_all send_all
    all_after x [] l = refl
    all_after x (fate ∷ fates) l = ap (link.send_all hear x fates) (one_after x fate l) ∙ all_after x fates (send_one x fate l)

    closed_after : (b : Bool) (l : Line) → cond b (after l) (link.abandon (after l)) ≡ after (cond b l (abandon l))
    closed_after true l = refl
    closed_after false l = refl

    ship_after : (largest : ℕ) (x : Shipment) (l : Line) → link.ship hear largest x (after l) ≡ after (ship largest x l)
    unfolding link.ship ship
    ship_after largest x l =
        ap (λ (v : World). cond (finished largest x) v (link.abandon v)) (all_after x.cargo x.fates l)
        ∙ closed_after (finished largest x) (send_all x.cargo x.fates l)

    run_after : (largest : ℕ) (xs : List Shipment) (l : Line) → link.run hear largest xs (after l) ≡ after (run largest xs l)
    unfolding link.run run
    run_after largest [] l = refl
    run_after largest (x ∷ xs) l = ap (link.run hear largest xs) (ship_after largest x l) ∙ run_after largest xs (ship largest x l)

  pub outcome_heard : (g : Setup) (buffer out : List ℕ) (xs : List Shipment)
      → outcome hear g buffer out xs ≡ after (link.start g buffer out) (run g.largest xs (start g out))
  unfolding link.start hear_all
  outcome_heard g buffer out xs = run_after (link.start g buffer out) g.largest xs (start g out)

-- ---- none is longer than the largest transfer

abbrev pub Short : ℕ → List ℕ → Type 0
Short n t = length t ≤ n

-- a line whose sender keeps to the largest transfer, as all that arrived does
pub record Bounded (largest : ℕ) (l : Line) : Type 0 where
  pub sender : l.sender.largest ≡ largest
  pub arrived : All (Short largest) l.arrived

abbrev Keeps : Sender → Result Sent Refusal → Type 0
Keeps s a = ((sender_after s a).largest ≡ s.largest) × (written_in a ≤ s.largest)

sent_keeps : (s : Sender) (channel m room : ℕ) → Keeps s (sent s channel m room)
unfolding size_of
sent_keeps s channel m room = go (judge_send s channel m room)
  where
    go : (r : Result Unit Refusal) → Keeps s (result_and r (Ok record { sender = left_by s channel m; written = size_at s m }))
    go (Ok u) = (refl, omega arith)
    go (Err r) = (refl, omega arith)

abandon_keeps : (s : Sender) → (result_unwrap_or (abandoned s) s).largest ≡ s.largest
unfolding abandoned
abandon_keeps s = by_cases (λ (a : Result Sender Refusal). (result_unwrap_or a s).largest ≡ s.largest) (not (sound_sender s)) _ _ (λ q. refl) (λ q. refl)

module _ (largest : ℕ) where
  one_bounded : (x : Cargo) (fate : ℕ) (l : Line) → Bounded largest l → Bounded largest (send_one x fate l)
  unfolding send_one
  one_bounded x fate l B =
      let s = sent l.sender x.channel (length x.bytes) (length l.out) in
      let o = out_after l.sender x.channel x.bytes l.out in
      let k = sent_keeps l.sender x.channel (length x.bytes) (length l.out) in
      let short : length (take (written_in s) o) ≤ largest = omega (arith, length-take (written_in s) o, k.1, B.sender) in
      record {
        sender = k.0 ∙ B.sender;
        arrived = All-append (Short largest) l.arrived (replicate fate (take (written_in s) o)) B.arrived (All-replicate (Short largest) fate (take (written_in s) o) short);
      }

  all_bounded : (x : Cargo) (fates : List ℕ) (l : Line) → Bounded largest l → Bounded largest (send_all x fates l)
  unfolding send_all
  all_bounded x [] l B = B
  all_bounded x (fate ∷ fates) l B = all_bounded x fates (send_one x fate l) (one_bounded x fate l B)

  ship_bounded : (x : Shipment) (l : Line) → Bounded largest l → Bounded largest (ship largest x l)
  unfolding ship
  ship_bounded x l B =
      let k = all_bounded x.cargo x.fates l B in
      by_cases (Bounded largest) (finished largest x) _ _ (λ q. k) (λ q. record { sender = abandon_keeps (send_all x.cargo x.fates l).sender ∙ k.sender; arrived = k.arrived })

  pub run_bounded : (xs : List Shipment) (l : Line) → Bounded largest l → Bounded largest (run largest xs l)
  unfolding run
  run_bounded [] l B = B
  run_bounded (x ∷ xs) l B = run_bounded xs (ship largest x l) (ship_bounded x l B)

pub start_bounded : (g : Setup) (out : List ℕ) → Bounded g.largest (start g out)
start_bounded g out = record { sender = refl; arrived = All-nil (Short g.largest) }
