-- Demand 3 over the UART, proved.
use Prim.Native.Nat.{ℕ}
use mathlib.Core.List.{List, flatten}
use mathlib.Core.Path.{◌≡◌, sym, ◌∙◌, ap}
use lib.ListN.{length}
use Rattle.receiver.specs.declared.Receiver.{Receiver}
use Rattle.receiver.specs.State.{channel_at}
use Rattle.link.specs.Run as link
use Rattle.link.specs.Run.{Setup, Shipment, World, receiving, outcome}
use Rattle.link.proofs.Kept.{demand_3}
use Rattle.reader.specs.Reader.{outside}
use Rattle.messages.specs.Messages.{transfers_in}
use Rattle.messages.proofs.Split.{reader_tells}
use Rattle.stream.specs.Stream.{Carries, transfers, Caller, listened_to, KeptOverUart}
use Rattle.stream.proofs.Listening.{slices_heard}
use Rattle.stream.proofs.Arriving.{hear_all, outcome_heard}

-- the caller's receiver, cargo buffer and cargoes at the end of the stream are those of the run
pub record SameAs (c : Caller) (w : World) : Type 0 where
  pub receiver : c.listener.receiver ≡ w.receiver
  pub buffer : c.buffer ≡ w.buffer
  pub got : c.got ≡ w.got

pub same_as_run : (g : Setup) (message buffer out : List ℕ) (slices : List (List ℕ)) (xs : List Shipment) → Carries (length message) (flatten slices) (transfers g out xs)
    → SameAs (listened_to g message buffer slices) (outcome receiving g buffer out xs)
unfolding link.start
same_as_run g message buffer out slices xs carried =
    let w = link.start g buffer out in
    let H = slices_heard slices outside 0 message w in
    let R = ap (λ (ts : List (List ℕ)). hear_all receiving ts w) (ap transfers_in (reader_tells (flatten slices) message) ∙ carried) in
    let O = outcome_heard receiving g buffer out xs in
    record {
      receiver = ap (λ (c : Caller). c.listener.receiver) H.is ∙ ap (λ (v : World). v.receiver) R ∙ sym (ap (λ (v : World). v.receiver) O);
      buffer = ap (λ (c : Caller). c.buffer) H.is ∙ ap (λ (v : World). v.buffer) R ∙ sym (ap (λ (v : World). v.buffer) O);
      got = ap (λ (c : Caller). c.got) H.is ∙ ap (λ (v : World). v.got) R ∙ sym (ap (λ (v : World). v.got) O);
    }

pub demand_3_over_uart : KeptOverUart
demand_3_over_uart g message buffer out slices xs F carried =
    let S = same_as_run g message buffer out slices xs carried in
    let D = demand_3 g buffer out xs F in
    record {
      delivered = S.got ∙ D.delivered;
      missing = λ c i. ap (λ (r : Receiver). (channel_at r c).missing) S.receiver ∙ D.missing c i;
      repeats = λ c i. ap (λ (r : Receiver). (channel_at r c).repeats) S.receiver ∙ D.repeats c i;
    }
