-- A run under permits is the plain run of what was written: the same sender, and the same transfers, each as its way carries it.
use Prim.Native.Nat.{ℕ, zero, suc}
use mathlib.Core.Bool.{Bool, true, false, cond}
use mathlib.Core.Path.{◌≡◌, refl, sym, ap, ◌∙◌}
use mathlib.Core.List.{List, [], ◌∷◌, ◌++◌, map, map-append, append-nil}
use lib.ListN.{length, take, replicate}
use Rattle.std.specs.Prelude.{Ok}
use Rattle.sender.specs.declared.Sender.{Sender}
use Rattle.sender.specs.Send.{judge_send, transfer_at, out_after}
use Rattle.sender.specs.Send as plain
use Rattle.sender.proofs.Transfer.{sent_is, written_is, out_length}
use Rattle.link.specs.Run.{Cargo, finished}
use Rattle.stream.specs.Stream as stream
use Rattle.stream.specs.Stream.{Line}
use Rattle.permit.specs.Send.{Way, written_in}
use Rattle.permit.proofs.Claimed.{Asks, refused_untouched, written_as_plain}
use Rattle.permitted.specs.Run.{Try, Attempt, Host, permit_at, call_at, answer_at, output_at, writes, try_one, try_all, fates_by, shipment, abandon, ship, run, plain as plain_run}

map_copies : (f : List ℕ → List ℕ) (k : ℕ) (t : List ℕ) → map f (replicate k t) ≡ replicate k (f t)
map_copies f zero t = refl
map_copies f (suc k) t = ap (λ (ts : List (List ℕ)). f t ∷ ts) (map_copies f k t)

send_append : (x : Cargo) (fs gs : List ℕ) (k : Line) → stream.send_all x (fs ++ gs) k ≡ stream.send_all x gs (stream.send_all x fs k)
unfolding stream.send_all
send_append x [] gs k = refl
send_append x (f ∷ fs) gs k = send_append x fs gs (stream.send_one x f k)

-- a line under permits, and one without
pub record Same (wrap : List ℕ → List ℕ) (l k : Line) : Type 0 where
  pub sender : l.sender ≡ k.sender
  pub room : length l.out ≡ length k.out
  pub arrived : l.arrived ≡ map wrap k.arrived

closed : (wrap : List ℕ → List ℕ) (b : Bool) (h : Host) (k : Line) → Same wrap h.line k → Same wrap (cond b h (abandon h)).line (cond b k (stream.abandon k))
closed wrap true h k S = S
closed wrap false h k S = record { sender = rw S.sender; room = S.room; arrived = S.arrived }

-- `wrap` is how the way carries a transfer
module _ (way : Way) (A : Asks way) (wrap : List ℕ → List ℕ) (carries : (s : Sender) (channel : ℕ) (cargo : List ℕ) → way.bytes s channel cargo ≡ wrap (transfer_at s channel cargo)) where
  one_written : (x : Cargo) (t : Try) (h : Host) (k : Line) → writes way x t h ≡ true → Same wrap h.line k
      → Same wrap (try_one way x t h).line (stream.send_one x t.fate k)
  unfolding try_one stream.send_one
  one_written x t h k q S =
      let W = written_as_plain way A (permit_at t h) (call_at x t h) q in
      let own : judge_send k.sender x.channel (length x.bytes) (length k.out) ≡ Ok tt = rw (S.sender, S.room) at W.own in
      let c = transfer_at k.sender x.channel x.bytes in
      let b : take (written_in (answer_at way x t h)) (output_at way x t h) ≡ wrap c = W.front ∙ carries h.line.sender x.channel x.bytes ∙ ap (λ (s : Sender). wrap (transfer_at s x.channel x.bytes)) S.sender in
      let d : take (plain.written_in (plain.sent k.sender x.channel (length x.bytes) (length k.out))) (out_after k.sender x.channel x.bytes k.out) ≡ c =
      rw (sent_is k.sender x.channel x.bytes k.out own) (written_is k.sender x.channel x.bytes k.out own) in
      record {
        sender = W.sender ∙ rw (S.sender, S.room);
        room = W.size ∙ S.room ∙ sym (out_length k.sender x.channel x.bytes k.out own);
        arrived = rw (q, b, S.arrived, d) (sym (map-append wrap k.arrived (replicate t.fate c) ∙ ap (λ (ts : List (List ℕ)). map wrap k.arrived ++ ts) (map_copies wrap t.fate c)));
      }

  one_refused : (x : Cargo) (t : Try) (h : Host) (k : Line) → writes way x t h ≡ false → Same wrap h.line k → Same wrap (try_one way x t h).line k
  unfolding try_one
  one_refused x t h k q S =
      let R = refused_untouched way (permit_at t h) (call_at x t h) q in
      record { sender = R.sender ∙ S.sender; room = ap length R.output ∙ S.room; arrived = rw q (append-nil h.line.arrived ∙ S.arrived) }

  -- one call, by what it answered
  pub one_same : (x : Cargo) (t : Try) (h : Host) (k : Line) → Same wrap h.line k
      → Same wrap (try_one way x t h).line (stream.send_all x (cond (writes way x t h) (t.fate ∷ []) []) k)
  unfolding stream.send_all
  one_same x t h k S = go (writes way x t h) refl
    where
      go : (b : Bool) → writes way x t h ≡ b → Same wrap (try_one way x t h).line (stream.send_all x (cond b (t.fate ∷ []) []) k)
      go true q = one_written x t h k q S
      go false q = one_refused x t h k q S

  all_same : (x : Cargo) (ts : List Try) (h : Host) (k : Line) → Same wrap h.line k → Same wrap (try_all way x ts h).line (stream.send_all x (fates_by way x ts h) k)
  unfolding try_all fates_by stream.send_all
  all_same x [] h k S = S
  all_same x (t ∷ ts) h k S = rw (send_append x (cond (writes way x t h) (t.fate ∷ []) []) (fates_by way x ts (try_one way x t h)) k) (all_same x ts (try_one way x t h) _ (one_same x t h k S))

  ship_same : (largest : ℕ) (x : Attempt) (h : Host) (k : Line) → Same wrap h.line k → Same wrap (ship way largest x h).line (stream.ship largest (shipment way x h) k)
  unfolding ship stream.ship
  ship_same largest x h k S = closed wrap (finished largest (shipment way x h)) (try_all way x.cargo x.tries h) _ (all_same x.cargo x.tries h k S)

  pub run_same : (largest : ℕ) (xs : List Attempt) (h : Host) (k : Line) → Same wrap h.line k → Same wrap (run way largest xs h).line (stream.run largest (plain_run way largest xs h) k)
  unfolding run plain_run stream.run
  run_same largest [] h k S = S
  run_same largest (x ∷ xs) h k S = run_same largest xs (ship way largest x h) (stream.ship largest (shipment way x h) k) (ship_same largest x h k S)
