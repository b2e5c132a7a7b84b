-- Demand 3 under permits: the plain run is the same run, and over the UART the messages that arrive are heard as its
-- transfers.
use Rattle.std.specs.Prelude.{ℕ, ◌≤◌, ◌≡◌, length}
use mathlib.Core.List.{List, flatten}
use Rattle.link.specs.Run.{Setup, receiving}
use Rattle.link.specs.Demand.{longest, Assumed, Concluded}
use Rattle.messages.specs.Sent.{on_line}
use Rattle.stream.specs.Stream as stream
use Rattle.stream.specs.Stream.{Harmless, listened_to, message_room, ConcludedOver}
use Rattle.permit.specs.Send.{transfers, messages}
use Rattle.permitted.specs.Run.{Attempt, after_all, plainly}

-- the transfers that arrive, and the sender at the end, are those of the plain run, of which demand 3 is concluded
pub record SameRun (g : Setup) (buffer out : List ℕ) (xs : List Attempt) : Type 0 where
  pub sender :
      (after_all transfers g out xs).line.sender
      ≡ (stream.run g.largest (plainly transfers g out xs) (stream.start g out)).sender
  pub arrived : (after_all transfers g out xs).line.arrived ≡ stream.transfers g out (plainly transfers g out xs)
  pub concluded : Concluded receiving g buffer out (plainly transfers g out xs)

abbrev pub KeptUnderPermits : Type 0
KeptUnderPermits =
    (g : Setup) (buffer out : List ℕ) (xs : List Attempt) → Assumed longest g buffer out (plainly transfers g out xs)
    → SameRun g buffer out xs

-- a caller who listens to the messages that arrive hears what demand 3 promises of the cargoes that were written: with
-- one flag between two messages or more, whatever harmless bytes stand beside them, in slices cut anywhere
abbrev pub KeptOverUart : Type 0
KeptOverUart =
    (g : Setup) (message buffer out noise rest : List ℕ) (between : ℕ → List (List ℕ)) (slices : List (List ℕ))
    (xs : List Attempt)
    → Assumed longest g buffer out (plainly messages g out xs) → message_room g ≤ length message
    → Harmless (length message) noise between rest
    → flatten slices ≡ on_line noise between (after_all messages g out xs).line.arrived rest
    → ConcludedOver g (listened_to g message buffer slices) (plainly messages g out xs)
