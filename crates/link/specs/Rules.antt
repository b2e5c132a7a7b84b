-- The receiver of document 01 opened at the points where the mistakes lie: each of its rules is a parameter here.
use Rattle.std.specs.Prelude.{ℕ, ◌-◌, Bool, true, false, cond, ◌&&◌, ◌≡◌, eqb, length, Option, None, Some, is_some, Result, Ok, Err}
use Rattle.header.specs.declared.Header.{Header}
use Rattle.header.specs.Sequence.{gap_of}
use Rattle.verdict.specs.declared.answers.Answer.{Answer}
use Rattle.verdict.specs.Answer.{refusal}
use Rattle.verdict.specs.Judge.{judge}
use Rattle.joining.specs.declared.Cargo.{Cargo}
use Rattle.joining.specs.declared.channels.Channel.{Channel}
use Rattle.joining.specs.declared.joinings.Joining.{Joining}
use Rattle.step.specs.declared.steps.Went.{Went}
use Rattle.joining.specs.Channel.{is_repeat, repeated, heard_of}
use Rattle.joining.specs.Joining.{unjoined, begin, carried_of}
use Rattle.step.specs.Step.{went, after, bytes_in, channel_of}
use Rattle.receiver.specs.declared.Receiver.{Receiver}
use Rattle.receiver.specs.declared.Received.{Received}
use Rattle.receiver.specs.State.{sound_receiver, channel_at, with_channel}
use Rattle.link.specs.Run.{Hear, receiving}

-- Where is this channel's number kept?
abbrev pub Slots : Type 0
Slots = (channel : ℕ) → ℕ

-- Does this continuation with this gap go on with the cargo under way?
abbrev pub Joins : Type 0
Joins = (cargo : Cargo) (h : Header) (gap : ℕ) → Bool

-- Is this gap on this channel a repeat? And what does a repeat on this channel leave of the cargo under way?
abbrev pub Repeats : Type 0
Repeats = (c : Channel) (gap : ℕ) → Bool

abbrev pub Spares : Type 0
Spares = (channel : ℕ) (underway : Option Cargo) → Option Cargo

-- The channel after a repeat, and after a new transfer with this number and gap
abbrev pub Again : Type 0
Again = (c : Channel) → Channel

abbrev pub Anew : Type 0
Anew = (c : Channel) (number gap : ℕ) → Channel

-- the one's number, and the other's counts
abbrev pub numbered : (one other : Channel) → Channel
numbered one other =
    record { counter = one.counter; heard = one.heard; missing = other.missing; repeats = other.repeats }

module _ (slot : Slots) (joins : Joins) (repeats : Repeats) (spares : Spares) (again : Again) (anew : Anew) where
  unfoldable pub place_by : (underway : Option Cargo) (h : Header) (gap : ℕ) → Joining
  place_by None h gap = cond h.continuation (unjoined false) (begin h false)
  place_by (Some cargo) h gap =
      cond h.continuation
      (cond (joins cargo h gap) record { cargo = Some cargo; dropped = false } (unjoined true))
      (begin h true)

  unfoldable pub go_on_by : (underway : Option Cargo) (c : Channel) (h : Header) (n : ℕ) → Went
  go_on_by underway c h n =
      let gap = gap_of h.number c.counter.next in
      let j = place_by underway h gap in
      cond (repeats c gap)
      (went (again c) (spares h.channel underway) (refusal 20) 0 0)
      (after (anew c h.number gap) h n gap j (carried_of (is_some j.cargo) n h.length))

  unfoldable pub step_by : (underway : Option Cargo) (c : Channel) (n : ℕ) → Result Header Answer → Result Went Answer
  step_by underway c n (Err answer) = Err answer
  step_by underway c n (Ok h) = Ok (go_on_by underway c h n)

  -- the channel, with its number read at its slot and written there too
  abbrev pub channel_by : (r : Receiver) (i : ℕ) → Channel
  channel_by r i = numbered (channel_at r (slot i)) (channel_at r i)

  abbrev pub with_channel_by : (r : Receiver) (i : ℕ) (c : Channel) (underway : Option Cargo) → Receiver
  with_channel_by r i c underway =
      let w = with_channel r i c underway in
      with_channel w (slot i) (numbered c (channel_at w (slot i))) underway

  abbrev pub taken_by : (r : Receiver) (i : ℕ) → Result Went Answer → Received
  taken_by r i (Err answer) = record { receiver = r; answer = answer }
  taken_by r i (Ok w) = record { receiver = with_channel_by r i w.channel w.underway; answer = w.answer }

  unfoldable pub receiving_by : Hear
  receiving_by r buffer t =
      let i = channel_of t in
      let verdict = judge (sound_receiver r) r.settings t (length buffer) in
      let s = step_by r.underway (channel_by r i) (length t) verdict in
      record { received = taken_by r i s; buffer = bytes_in s t buffer }

-- document 01's rules: "Each channel and each direction has its own"
abbrev pub own : Slots
own channel = channel

-- "on this channel, the gap is 0, and L-4 equals the bytes still due"
abbrev pub joins_due : Joins
joins_due cargo h gap = eqb cargo.channel h.channel && eqb gap 0 && eqb (h.length - 4) (cargo.total - cargo.held)

-- "it loses nothing"
abbrev pub spares_all : Spares
spares_all channel underway = underway

-- with these it is the receiver, whose buffer has room whenever a continuation is joined (proved in proofs/Ruled.antt)
abbrev pub RulesRight : Type 0
RulesRight = receiving_by own joins_due is_repeat spares_all repeated heard_of ≡ receiving
