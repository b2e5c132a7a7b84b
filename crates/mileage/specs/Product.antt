-- The whole product: a sender, a wire as in demand 3, a receiver, and the odometer that hears its answers.
use Rattle.std.specs.Prelude.{ℕ, zero, suc, ◌*◌, ◌≤◌, Bool, true, cond, ◌≡◌, ltb, length}
use Rattle.std.specs.Result.{result_unwrap_or}
use mathlib.Core.List.{List, [], ◌∷◌, ◌++◌, flatten}
use Rattle.receiver.specs.declared.Receiver.{Receiver}
use Rattle.receiver.specs.State.{fresh_receiver}
use Rattle.link.specs.Run.{Setup, Shipment, Hear}
use Rattle.link.specs.Demand.{longest, all_arrived, Assumed}
use Rattle.listener.specs.declared.News.{News}
use Rattle.listener.specs.declared.News.TheVariants.{Nothing, Transfer, Query, Notice, Refused}
use Rattle.listener.specs.Listen.{listen}
use Rattle.stream.specs.Stream.{transfers, Carries, Caller, call, at_front, fresh}
use Rattle.odometer.specs.declared.Odometer.{Odometer}
use Rattle.odometer.specs.Odometer.{in_range, fresh_odometer, fits, hear_answer, distance_of}
use Rattle.mileage.specs.Wheel.{Sent, total, other, cargo_of, fate_of, arrived, Rising, Apart, Near, span, shows}

-- ---- what is sent

-- a cargo with the fates of its transfers, as in demand 3; totals go on this channel
abbrev pub shipment_of : ℕ → Sent (List ℕ) → Shipment
shipment_of channel s = record { cargo = cargo_of channel s; fates = fate_of s }

unfoldable pub shipments : ℕ → List (Sent (List ℕ)) → List Shipment
shipments channel [] = []
shipments channel (s ∷ ss) = shipment_of channel s ∷ shipments channel ss

-- a cargo arrives that was finished, and whose every transfer did
abbrev pub cargo_fate : ℕ → ℕ → Sent (List ℕ) → Sent Bool
cargo_fate largest channel (total turns fates) = total turns (all_arrived largest (shipment_of channel (total turns fates)))
cargo_fate largest channel (other cargo fates) = other cargo (all_arrived largest (shipment_of channel (other cargo fates)))

unfoldable pub cargo_fates : ℕ → ℕ → List (Sent (List ℕ)) → List (Sent Bool)
cargo_fates largest channel [] = []
cargo_fates largest channel (s ∷ ss) = cargo_fate largest channel s ∷ cargo_fates largest channel ss

-- the true turns of the totals that are to be delivered
abbrev pub deliverable : Setup → ℕ → List (Sent (List ℕ)) → List ℕ
deliverable g channel ss = arrived (cargo_fates g.largest channel ss)

-- ---- the receiving end, transfer by transfer

pub record Device : Type 0 where
  pub receiver : Receiver
  pub buffer : List ℕ
  pub odometer : Odometer

abbrev pub fresh_device : Setup → ℕ → ℕ → List ℕ → Device
fresh_device g channel circumference buffer =
    record { receiver = fresh_receiver g.settings; buffer = buffer; odometer = fresh_odometer channel circumference }

-- each answer goes to the odometer, with the buffer
unfoldable pub takes : Hear → Device → List ℕ → Device
takes hear d t =
    let h = hear d.receiver d.buffer t in
    record {
      receiver = h.received.receiver;
      buffer = h.buffer;
      odometer = (hear_answer d.odometer h.received.answer h.buffer).odometer;
    }

unfoldable pub takes_all : Hear → Device → List (List ℕ) → Device
takes_all hear d [] = d
takes_all hear d (t ∷ ts) = takes_all hear (takes hear d t) ts

-- ---- the receiving end, on the bytes of a UART: the caller of crate `stream`, who hands each answer on

pub record Rider : Type 0 where
  pub caller : Caller
  pub odometer : Odometer

abbrev pub hear_news : Odometer → News → List ℕ → Odometer
hear_news o Nothing buffer = o
hear_news o (Transfer channel held answer) buffer = (hear_answer o answer buffer).odometer
hear_news o Query buffer = o
hear_news o (Notice room) buffer = o
hear_news o (Refused number) buffer = o

unfoldable pub ride : List ℕ → Rider → Rider
ride input r =
    let c = r.caller in
    let next = call input c in
    record {
      caller = next;
      odometer =
          hear_news r.odometer (listen c.listener input c.at c.message (length c.buffer)).news
          next.buffer;
    }

unfoldable pub rides : ℕ → List ℕ → Rider → Rider
rides zero input r = r
rides (suc n) input r = cond (ltb r.caller.at (length input)) (rides n input (ride input r)) r

-- slice by slice
unfoldable pub rides_all : List (List ℕ) → Rider → Rider
rides_all [] r = r
rides_all (s ∷ slices) r =
    rides_all slices (rides (length s) s record { caller = at_front r.caller; odometer = r.odometer })

abbrev pub ridden_on : Setup → ℕ → ℕ → List ℕ → List ℕ → List (List ℕ) → Rider
ridden_on g channel circumference message buffer slices =
    rides_all slices record { caller = fresh g message buffer; odometer = fresh_odometer channel circumference }

-- ---- the statement

-- demand 3's assumptions, a wheel that never turns back, one channel for its totals, and what the odometer assumes of
-- those delivered
pub record Fair (g : Setup) (channel circumference : ℕ) (buffer out : List ℕ) (ss : List (Sent (List ℕ))) : Type 0 where
  pub transport : Assumed longest g buffer out (shipments channel ss)
  pub circumference_right : in_range circumference ≡ true
  pub rising : Rising 0 ss
  pub apart : Apart channel ss
  pub near : Near (deliverable g channel ss)
  pub not_too_far : fits (span (deliverable g channel ss) * circumference) ≡ true

-- the odometer shows exactly the distance between the first and the last total whose cargo was delivered; and, whatever
-- transfers come, never less than before
pub record Shown (hear : Hear) (g : Setup) (channel circumference : ℕ) (buffer out : List ℕ)
    (ss : List (Sent (List ℕ))) : Type 0 where
  pub exact :
      distance_of
      (takes_all hear (fresh_device g channel circumference buffer) (transfers g out (shipments channel ss))).odometer
      ≡ shows (span (deliverable g channel ss) * circumference)
  pub never_less : (ts us : List (List ℕ))
      → result_unwrap_or (distance_of (takes_all hear (fresh_device g channel circumference buffer) ts).odometer) 0
      ≤ result_unwrap_or (distance_of (takes_all hear (fresh_device g channel circumference buffer) (ts ++ us)).odometer) 0

abbrev pub WholeProduct : Hear → Type 0
WholeProduct hear = (g : Setup) (channel circumference : ℕ) (buffer out : List ℕ) (ss : List (Sent (List ℕ)))
    → Fair g channel circumference buffer out ss → Shown hear g channel circumference buffer out ss

-- and over the UART, of any bytes that carry the transfers, cut anywhere
abbrev pub WholeProductOverUart : Type 0
WholeProductOverUart =
    (g : Setup) (channel circumference : ℕ) (message buffer out : List ℕ) (slices : List (List ℕ))
    (ss : List (Sent (List ℕ)))
    → Fair g channel circumference buffer out ss
    → Carries (length message) (flatten slices) (transfers g out (shipments channel ss))
    → distance_of (ridden_on g channel circumference message buffer slices).odometer
    ≡ shows (span (deliverable g channel ss) * circumference)
