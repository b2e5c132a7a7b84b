-- A run of demand 3: a fresh sender and a fresh receiver with equal settings,
-- and between them a wire that loses and repeats.
use Rattle.std.specs.Prelude.{ℕ, zero, suc, Bool, cond, List, [], ◌∷◌, ◌++◌, eqb, length, take}
use Rattle.std.specs.Result.{result_unwrap_or}
use Rattle.verdict.specs.declared.Settings.{Settings}
use Rattle.verdict.specs.declared.answers.Kind.{Kind}
use Rattle.verdict.specs.declared.answers.Kind.TheVariants.{Delivered, Part, Null, Refused}
use Rattle.verdict.specs.Answer.{delivered_bytes}
use Rattle.receiver.specs.declared.Receiver.{Receiver}
use Rattle.receiver.specs.declared.Received.{Received}
use Rattle.receiver.specs.State.{fresh_receiver}
use Rattle.receiver.specs.Take.{receive, cargo_after}
use Rattle.sender.specs.declared.Sender.{Sender}
use Rattle.sender.specs.State.{fresh_sender}
use Rattle.sender.specs.Send.{sent, sender_after, written_in, out_after, abandoned}
use Rattle.sender.specs.Whole.{calls_for}

-- ---- what is sent, and what the wire makes of it

-- the equal settings of both ends, and the sender's largest transfer
pub record Setup : Type 0 where
  pub settings : Settings
  pub largest : ℕ

pub record Cargo : Type 0 where
  pub channel : ℕ
  pub bytes : List ℕ

-- a cargo, and the fate of each of its transfers that were sent, in order:
-- 0 it was lost, 1 + k it arrived, with k surplus copies
pub record Shipment : Type 0 where
  pub cargo : Cargo
  pub fates : List ℕ

-- finished, all its transfers being sent; or else abandoned
unfoldable pub finished : (largest : ℕ) (x : Shipment) → Bool
finished largest x = eqb (length x.fates) (calls_for largest (length x.cargo.bytes))

-- ---- the run

-- A receiving function: of a receiver, the lent buffer and a transfer it makes the receiver, its answer and the buffer.
pub record Reply : Type 0 where
  pub received : Received
  pub buffer : List ℕ

abbrev pub Hear : Type 0
Hear = (r : Receiver) (buffer t : List ℕ) → Reply

-- the one that the receiver's contract promises
abbrev pub receiving : Hear
receiving r buffer t = record { received = receive r t (length buffer); buffer = cargo_after r t buffer }

-- one sender, one receiver, one cargo buffer and one output throughout,
-- and the cargoes that the receiver's caller was handed so far
pub record World : Type 0 where
  pub sender : Sender
  pub receiver : Receiver
  pub buffer : List ℕ
  pub out : List ℕ
  pub got : List Cargo

unfoldable pub start : (g : Setup) (buffer out : List ℕ) → World
start g buffer out =
    record {
      sender = fresh_sender g.settings g.largest;
      receiver = fresh_receiver g.settings;
      buffer = buffer;
      out = out;
      got = [];
    }

-- what a caller takes of an answer: a delivered cargo, read off the buffer
abbrev pub handed : Kind → (buffer : List ℕ) → List Cargo
handed (Delivered channel len) buffer =
    record { channel = channel; bytes = take (delivered_bytes (Delivered channel len) (length buffer)) buffer } ∷ []
handed Part buffer = []
handed Null buffer = []
handed Refused buffer = []

unfoldable pub arrive : (hear : Hear) (t : List ℕ) (w : World) → World
arrive hear t w =
    let h = hear w.receiver w.buffer t in
    record {
      sender = w.sender;
      receiver = h.received.receiver;
      buffer = h.buffer;
      out = w.out;
      got = w.got ++ handed h.received.answer.kind h.buffer;
    }

-- "a repeat before anything sent later": the copies that arrive do so at once
unfoldable pub arrivals : (hear : Hear) (copies : ℕ) (t : List ℕ) (w : World) → World
arrivals hear zero t w = w
arrivals hear (suc k) t w = arrivals hear k t (arrive hear t w)

-- one call of the sender, with the whole cargo; the transfer at the front of the output goes to the wire
unfoldable pub send_one : (hear : Hear) (x : Cargo) (fate : ℕ) (w : World) → World
send_one hear x fate w =
    let s = sent w.sender x.channel (length x.bytes) (length w.out) in
    let o = out_after w.sender x.channel x.bytes w.out in
    arrivals hear fate (take (written_in s) o)
    record { sender = sender_after w.sender s; receiver = w.receiver; buffer = w.buffer; out = o; got = w.got }

unfoldable pub send_all : (hear : Hear) (x : Cargo) (fates : List ℕ) (w : World) → World
send_all hear x [] w = w
send_all hear x (fate ∷ fates) w = send_all hear x fates (send_one hear x fate w)

abbrev pub abandon : World → World
abandon w =
    record {
      sender = result_unwrap_or (abandoned w.sender) w.sender;
      receiver = w.receiver;
      buffer = w.buffer;
      out = w.out;
      got = w.got;
    }

unfoldable pub ship : (hear : Hear) (largest : ℕ) (x : Shipment) (w : World) → World
ship hear largest x w =
    let v = send_all hear x.cargo x.fates w in
    cond (finished largest x) v (abandon v)

-- "Cargoes are sent one after another"
unfoldable pub run : (hear : Hear) (largest : ℕ) (xs : List Shipment) (w : World) → World
run hear largest [] w = w
run hear largest (x ∷ xs) w = run hear largest xs (ship hear largest x w)

abbrev pub outcome : (hear : Hear) (g : Setup) (buffer out : List ℕ) (xs : List Shipment) → World
outcome hear g buffer out xs = run hear g.largest xs (start g buffer out)
