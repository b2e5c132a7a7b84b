-- Receivers that are wrong, each by one change of the receiver of document 01
-- ("What students hand in", "How tight each contract is").
use Rattle.std.specs.Prelude.{ℕ, ◌+◌, ◌-◌, ◌%◌, ◌^◌, Bool, false, cond, not, ◌&&◌, List, eqb, Option, None, Some, is_some, Result, Ok, Err}
use Rattle.refusals.specs.declared.Refusal.{Refusal}
use Rattle.header.specs.declared.Header.{Header}
use Rattle.header.specs.Header.{reading_of}
use Rattle.verdict.specs.declared.answers.Answer.{Answer}
use Rattle.verdict.specs.declared.answers.Kind.{Kind}
use Rattle.verdict.specs.declared.answers.Kind.TheVariants.{Delivered, Part, Null, Refused}
use Rattle.verdict.specs.Answer.{tell, refusal}
use Rattle.joining.specs.declared.channels.Channel.{Channel}
use Rattle.joining.specs.Channel.{is_repeat, repeated, heard_of}
use Rattle.step.specs.Step.{channel_of}
use Rattle.receiver.specs.declared.Receiver.{Receiver}
use Rattle.receiver.specs.State.{channel_at, with_channel}
use Rattle.link.specs.Run.{Reply, Hear, receiving}
use Rattle.link.specs.Rules.{Slots, Joins, Repeats, Spares, Again, Anew, receiving_by, own, joins_due, spares_all}

abbrev pub leaving : (r : Receiver) (answer : Answer) (buffer : List ℕ) → Reply
leaving r answer buffer = record { received = record { receiver = r; answer = answer }; buffer = buffer }

-- ---- "What students hand in"

-- "Joining on the continuation bit and channel alone"
abbrev pub on_channel : Joins
on_channel cargo h gap = eqb cargo.channel h.channel

unfoldable pub channel_alone : Hear
channel_alone = receiving_by own on_channel is_repeat spares_all repeated heard_of

-- "One number for the link": every channel's is kept at place 0
abbrev pub shared : Slots
shared channel = 0

unfoldable pub one_number : Hear
one_number = receiving_by shared joins_due is_repeat spares_all repeated heard_of

-- "Taking a repeat as a new first transfer": nothing is a repeat, and none is counted as a loss
abbrev pub never : Repeats
never c gap = false

abbrev pub uncounted : Anew
uncounted c number gap = cond (is_repeat c gap) c (heard_of c number gap)

unfoldable pub repeats_anew : Hear
repeats_anew = receiving_by own joins_due never spares_all repeated uncounted

-- "Counting 255 losses as a gap on a heard channel": in place of answer 20, or beside it
unfoldable pub gap_of255 : Hear
gap_of255 = receiving_by own joins_due never spares_all repeated heard_of

abbrev pub with_gap : Again
with_gap c =
    record {
      counter = c.counter;
      heard = c.heard;
      missing = (c.missing + 255) % 2 ^ 32;
      repeats = (c.repeats + 1) % 2 ^ 32;
    }

unfoldable pub gap_at_repeat : Hear
gap_at_repeat = receiving_by own joins_due is_repeat spares_all with_gap heard_of

-- "Reading a continuation's L as the whole cargo": as the length that is under way, or as that of the cargo it ends
abbrev pub as_whole : Joins
as_whole cargo h gap = eqb cargo.channel h.channel && eqb gap 0 && eqb (h.length - 4) cargo.total

unfoldable pub whole_length : Hear
whole_length = receiving_by own as_whole is_repeat spares_all repeated heard_of

abbrev pub relabelled : (len : ℕ) → Kind → Kind
relabelled len (Delivered channel m) = Delivered channel len
relabelled len Part = Part
relabelled len Null = Null
relabelled len Refused = Refused

abbrev pub by_header : Result (Option Header) Refusal → Kind → Kind
by_header (Err r) kind = kind
by_header (Ok None) kind = kind
by_header (Ok (Some h)) kind = relabelled (h.length - 4) kind

unfoldable pub last_length : Hear
last_length r buffer t =
    let h = receiving r buffer t in
    let a = h.received.answer in
    let kind = by_header (reading_of t) a.kind in
    leaving h.received.receiver (tell kind a.number a.gap a.dropped) h.buffer

-- ---- "How tight each contract is"

abbrev pub unchanged : Answer → Hear
unchanged answer r buffer t = leaving r answer buffer

-- "always refuses, or always answers null, or does nothing"
unfoldable pub refuses : Hear
refuses = unchanged (refusal 2)

unfoldable pub nulls : Hear
nulls = unchanged (tell Null 0 0 false)

unfoldable pub idles : Hear
idles = unchanged (tell Part 0 0 false)

-- "joins the first cargo and then only nods": its channel was heard and none is under way
unfoldable pub nods : Hear
nods r buffer t =
    cond ((channel_at r (channel_of t)).heard && not (is_some r.underway)) (idles r buffer t) (receiving r buffer t)

-- "invented missing or repeat counts": one more than the gap, and two for a repeat
abbrev pub one_more : Anew
one_more c number gap = heard_of c number (gap + 1)

unfoldable pub invents_missing : Hear
invents_missing = receiving_by own joins_due is_repeat spares_all repeated one_more

abbrev pub twice : Again
twice c = repeated (repeated c)

unfoldable pub invents_repeats : Hear
invents_repeats = receiving_by own joins_due is_repeat spares_all twice heard_of

-- ---- nearer ones

-- answer 21 does not mark its channel as heard
abbrev pub heard_as : (heard : Bool) (c : Channel) → Channel
heard_as heard c = record { counter = c.counter; heard = heard; missing = c.missing; repeats = c.repeats }

unfoldable pub deaf_at21 : Hear
deaf_at21 r buffer t =
    let i = channel_of t in
    let h = receiving r buffer t in
    let n = h.received.receiver in
    let deaf = with_channel n i (heard_as (channel_at r i).heard (channel_at n i)) n.underway in
    cond (eqb h.received.answer.number 21) (leaving deaf h.received.answer h.buffer) h

-- a repeat loses the cargo under way
abbrev pub spares_none : Spares
spares_none channel underway = None

unfoldable pub drops_at_repeat : Hear
drops_at_repeat = receiving_by own joins_due is_repeat spares_none repeated heard_of

-- ---- those that demand 3 allows: a test less each

-- "L-4 equals the bytes still due" is not asked
abbrev pub any_length : Joins
any_length cargo h gap = eqb cargo.channel h.channel && eqb gap 0

unfoldable pub joins_any_length : Hear
joins_any_length = receiving_by own any_length is_repeat spares_all repeated heard_of

-- "on this channel" is not asked
abbrev pub any_channel : Joins
any_channel cargo h gap = eqb gap 0 && eqb (h.length - 4) (cargo.total - cargo.held)

unfoldable pub joins_any_channel : Hear
joins_any_channel = receiving_by own any_channel is_repeat spares_all repeated heard_of

-- a repeat loses the cargo under way "on .. another" channel
abbrev pub spares_own : Spares
spares_own channel None = None
spares_own channel (Some cargo) = cond (eqb cargo.channel channel) (Some cargo) None

unfoldable pub drops_others : Hear
drops_others = receiving_by own joins_due is_repeat spares_own repeated heard_of
