-- Demand 3 over the UART: the transfers of a run go as messages, and a caller listens to their bytes.
use Rattle.std.specs.Prelude.{ℕ, zero, suc, ◌+◌, ◌%◌, ◌^◌, ◌≤◌, ◌<◌, cond, ◌≡◌, ltb, length, take, replicate}
use Rattle.std.specs.Result.{result_unwrap_or}
use mathlib.Core.List.{List, [], ◌∷◌, ◌++◌, map, flatten}
use Rattle.receiver.specs.State.{fresh_receiver, channel_at}
use Rattle.sender.specs.declared.Sender.{Sender}
use Rattle.sender.specs.State.{fresh_sender}
use Rattle.sender.specs.Send.{sent, sender_after, written_in, out_after, abandoned}
use Rattle.link.specs.Run.{Setup, Cargo, Shipment, finished, handed}
use Rattle.link.specs.Demand.{longest, fates_of, lost, surplus, wanted, Assumed}
use Rattle.listener.specs.declared.Listener.{Listener}
use Rattle.listener.specs.declared.News.{News}
use Rattle.listener.specs.declared.News.TheVariants.{Nothing, Transfer, Query, Notice, Refused}
use Rattle.writer.specs.Message.{flag, message}
use Rattle.reader.specs.Reader.{outside}
use Rattle.reader.specs.Run.{read_from}
use Rattle.listener.specs.Listen.{listen, cargo_listened}
use Rattle.messages.specs.Messages.{messages_of, transfers_in}
use Rattle.messages.specs.Sent.{FlagFree, closed, on_line}

-- ---- the transfers that arrive

-- the sending end of a run (link's Run.antt), and what arrived so far: each transfer, copies included, in order
pub record Line : Type 0 where
  pub sender : Sender
  pub out : List ℕ
  pub arrived : List (List ℕ)

-- one call of the sender; its transfer arrives as often as its fate says, "a repeat before anything sent later"
unfoldable pub send_one : (x : Cargo) (fate : ℕ) (l : Line) → Line
send_one x fate l =
    let s = sent l.sender x.channel (length x.bytes) (length l.out) in
    let o = out_after l.sender x.channel x.bytes l.out in
    record {
      sender = sender_after l.sender s;
      out = o;
      arrived = l.arrived ++ replicate fate (take (written_in s) o);
    }

unfoldable pub send_all : (x : Cargo) (fates : List ℕ) (l : Line) → Line
send_all x [] l = l
send_all x (fate ∷ fates) l = send_all x fates (send_one x fate l)

abbrev pub abandon : Line → Line
abandon l = record { sender = result_unwrap_or (abandoned l.sender) l.sender; out = l.out; arrived = l.arrived }

unfoldable pub ship : (largest : ℕ) (x : Shipment) (l : Line) → Line
ship largest x l =
    let k = send_all x.cargo x.fates l in
    cond (finished largest x) k (abandon k)

unfoldable pub run : (largest : ℕ) (xs : List Shipment) (l : Line) → Line
run largest [] l = l
run largest (x ∷ xs) l = run largest xs (ship largest x l)

abbrev pub start : (g : Setup) (out : List ℕ) → Line
start g out = record { sender = fresh_sender g.settings g.largest; out = out; arrived = [] }

abbrev pub transfers : (g : Setup) (out : List ℕ) (xs : List Shipment) → List (List ℕ)
transfers g out xs = (run g.largest xs (start g out)).arrived

-- ---- the bytes on the wire

-- the messages of these bytes (messages' Messages.antt) hand the receiver these transfers, in this order, and no others
abbrev pub Carries : (room : ℕ) (input : List ℕ) (ts : List (List ℕ)) → Type 0
Carries room input ts = transfers_in (messages_of room input) ≡ ts

-- behind a flag these bytes hand it nothing: further flags, control messages, whatever is refused or not closed
abbrev pub Silent : (room : ℕ) (bytes : List ℕ) → Type 0
Silent room bytes = Carries room (flag ∷ bytes) []

-- each transfer as a message (messages' Sent.antt): noise, the first flag, and between two messages one flag or more
abbrev pub stream : (noise : List ℕ) (between : ℕ → List (List ℕ)) (ts : List (List ℕ)) (rest : List ℕ) → List ℕ
stream noise between ts rest = on_line noise between (map (message 1) ts) rest

-- what may stand beside them: any bytes before the first flag, and later whatever is silent
pub record Harmless (room : ℕ) (noise : List ℕ) (between : ℕ → List (List ℕ)) (rest : List ℕ) : Type 0 where
  pub no_flag : FlagFree noise
  pub silent : (i : ℕ) → Silent room (closed (between i))
  pub silent_rest : Silent room rest

-- ---- the caller

-- one listener, one message buffer and one cargo buffer throughout;
-- the place reached, and the cargoes handed over so far
pub record Caller : Type 0 where
  pub listener : Listener
  pub message : List ℕ
  pub buffer : List ℕ
  pub at : ℕ
  pub got : List Cargo

-- what the caller takes of the news: a delivered cargo, read off the buffer
abbrev pub handed_by : News → (buffer : List ℕ) → List Cargo
handed_by Nothing buffer = []
handed_by (Transfer channel held answer) buffer = handed answer.kind buffer
handed_by Query buffer = []
handed_by (Notice room) buffer = []
handed_by (Refused refusal) buffer = []

-- one call, from the place reached on
unfoldable pub call : (input : List ℕ) (c : Caller) → Caller
call input c =
    let x = listen c.listener input c.at c.message (length c.buffer) in
    let buffer = cargo_listened c.listener input c.at c.message c.buffer in
    record {
      listener = x.listener;
      message = (read_from c.listener.reader input c.at c.message).buffer;
      buffer = buffer;
      at = x.next;
      got = c.got ++ handed_by x.news buffer;
    }

-- as long as bytes are left, and at most n calls
unfoldable pub calls : (n : ℕ) (input : List ℕ) (c : Caller) → Caller
calls zero input c = c
calls (suc n) input c = cond (ltb c.at (length input)) (calls n input (call input c)) c

-- a slice is heard from its front
abbrev pub at_front : Caller → Caller
at_front c = record { listener = c.listener; message = c.message; buffer = c.buffer; at = 0; got = c.got }

-- each call takes a byte or more, so that a slice of n bytes needs no more than n calls
unfoldable pub calls_all : (slices : List (List ℕ)) (c : Caller) → Caller
calls_all [] c = c
calls_all (s ∷ slices) c = calls_all slices (calls (length s) s (at_front c))

-- before the first flag, with a fresh receiver
abbrev pub fresh : (g : Setup) (message buffer : List ℕ) → Caller
fresh g message buffer =
    record {
      listener = record { reader = outside; receiver = fresh_receiver g.settings };
      message = message;
      buffer = buffer;
      at = 0;
      got = [];
    }

-- the bytes come in slices, however they are cut
abbrev pub listened_to : (g : Setup) (message buffer : List ℕ) (slices : List (List ℕ)) → Caller
listened_to g message buffer slices = calls_all slices (fresh g message buffer)

-- ---- the demand

-- the conclusion of demand 3 (link's Demand.antt), of the caller at the end of the stream
pub record ConcludedOver (g : Setup) (c : Caller) (xs : List Shipment) : Type 0 where
  pub delivered : c.got ≡ wanted g.largest xs
  pub missing : (channel : ℕ) → channel < g.settings.count
      → (channel_at c.listener.receiver channel).missing ≡ lost (fates_of channel xs) % 2 ^ 32
  pub repeats : (channel : ℕ) → channel < g.settings.count
      → (channel_at c.listener.receiver channel).repeats ≡ surplus (fates_of channel xs) % 2 ^ 32

-- under demand 3's assumptions, of any bytes that carry the transfers, cut anywhere; proved in proofs/Kept.antt
abbrev pub KeptOverUart : Type 0
KeptOverUart =
    (g : Setup) (message buffer out : List ℕ) (slices : List (List ℕ)) (xs : List Shipment)
    → Assumed longest g buffer out xs → Carries (length message) (flatten slices) (transfers g out xs)
    → ConcludedOver g (listened_to g message buffer slices) xs

-- "The lent buffer holds ID and payload": the ID, and the largest transfer
abbrev pub message_room : Setup → ℕ
message_room g = 1 + g.largest

-- with this room for messages the stream of the transfers carries them
abbrev pub CarriedWith : (room : Setup → ℕ) → Type 0
CarriedWith room =
    (g : Setup) (out noise rest : List ℕ) (between : ℕ → List (List ℕ)) (xs : List Shipment) (r : ℕ)
    → Harmless r noise between rest → room g ≤ r
    → Carries r (stream noise between (transfers g out xs) rest) (transfers g out xs)

-- proved in proofs/Carried.antt; one byte less is not enough (proofs/Example.antt)
abbrev pub CarriedOverUart : Type 0
CarriedOverUart = CarriedWith message_room
