-- A loop that holds a receiver's parts, and puts each channel back at its place, listens.
use Prim.Native.Nat.{ℕ, ◌<◌, ◌%◌}
use mathlib.Core.Path.{◌≡◌, refl, sym, ap, ◌∙◌}
use mathlib.Core.Bool.{Bool}
use mathlib.Core.List.{List}
use native.Mathlib.Omega.{arith}
use borrow.Author.Tests.{lt-ltb}
use lib.ListN.{length, drop}
use lib.Seq.{set-get_or}
use Rattle.std.specs.Prelude.{Result, Ok, Err}
use Rattle.verdict.specs.declared.answers.Answer.{Answer}
use Rattle.step.specs.declared.steps.Went.{Went}
use Rattle.joining.specs.Channel.{fresh_channel}
use Rattle.step.specs.Step.{taken_by, step_in, bytes_in, channel_of}
use Rattle.receiver.specs.declared.Receiver.{Receiver}
use Rattle.receiver.specs.State.{sound_receiver, channel_at, with_channel}
use Rattle.receiver.specs.Take.{received_by, receive, cargo_after}
use Rattle.receiver.proofs.Written.{taken, bytes_taken}
use Rattle.receiver.proofs.Lasting.{take_sound}
use Rattle.reader.specs.declared.Event.{Event}
use Rattle.reader.specs.declared.Event.TheVariants.{Nothing, Message, Query, Notice, Refused}
use Rattle.reader.specs.declared.slices.Ran.{Ran}
use Rattle.reader.specs.Run.{end_from, read_from}
use Rattle.reader.proofs.Fits.{Fits, run_fits, run_length}
use Rattle.listener.specs.declared.News.{News}
use Rattle.listener.specs.declared.News.TheVariants as told_news
use Rattle.listener.specs.declared.Handed.{Handed}
use Rattle.listener.specs.declared.Listener.{Listener}
use Rattle.listener.specs.Listen.{payload_of, transferred, handed, cargo_handed, listen, cargo_listened}
use Rattle.parts.specs.declared.HandedIn.{HandedIn}
use Rattle.parts.specs.Parts.{payload_in, channel_in, leaves, hand_in, cargo_in}

pub channel_below : (event : Event) (m : List ℕ) → channel_in event m < 32
unfolding channel_in
channel_below Nothing m = omega arith
channel_below (Message n) m = omega arith
channel_below Query m = omega arith
channel_below (Notice available) m = omega arith
channel_below (Refused refusal) m = omega arith

-- a receiver stays sound, or unsound, whatever it is handed
pub handed_sound : (rx : Receiver) (event : Event) (m : List ℕ) (room : ℕ) → sound_receiver (handed rx event m room).receiver ≡ sound_receiver rx
unfolding handed
handed_sound rx Nothing m room = refl
handed_sound rx (Message n) m room = take_sound rx (payload_of n m) room
handed_sound rx Query m room = refl
handed_sound rx (Notice available) m room = refl
handed_sound rx (Refused refusal) m room = refl

abbrev rejoined : Receiver → ℕ → HandedIn → Handed
rejoined rx i h = record { receiver = with_channel rx i h.channel h.underway; news = h.news }

module _ (rx : Receiver) (m d : List ℕ) (i : ℕ) {sound : Bool} (ok : sound ≡ sound_receiver rx) where
  abbrev by : Event → HandedIn
  by event = hand_in sound rx.settings rx.underway (channel_at rx i) event m (length d)

  kept : with_channel rx i (channel_at rx i) rx.underway ≡ rx
  kept = rw (set-get_or rx.channels i fresh_channel)

  unchanged : (news : News) → ◌≡◌ {A = Handed} record { receiver = with_channel rx i (channel_at rx i) rx.underway; news = news } record { receiver = rx; news = news }
  unchanged news = ap (λ (r : Receiver). record { receiver = r; news = news }) kept

  module _ (t : List ℕ) (p : i ≡ channel_of t % 32) where
    abbrev step : Result Went Answer
    step = step_in sound rx.settings rx.underway (channel_at rx i) t (length d)

    abbrev left_by : Result Went Answer → HandedIn
    left_by s = leaves sound rx.settings rx.underway (channel_at rx i) (channel_of t) (taken_by (channel_at rx i) rx.underway s)

    -- what a step leaves, rejoined, is the receiver that it makes
    joins : (s : Result Went Answer) → rejoined rx i (left_by s) ≡ transferred t (received_by rx i s)
    joins (Err answer) = rw kept
    joins (Ok w) = refl

    takes : rejoined rx i (left_by step) ≡ transferred t (receive rx t (length d))
    takes = joins step ∙ ap (transferred t) (taken rx t (length d) i p ok refl)

    carries : bytes_in step t d ≡ cargo_after rx t d
    carries = bytes_taken rx t (length d) i p ok refl d refl

  same_payload : (n : ℕ) → Fits (length m) (Message n) → payload_in n m ≡ payload_of n m
  unfolding payload_in
  same_payload n h = simp (lt-ltb n (length m) h)

  handed_in : (event : Event) → Fits (length m) event → i ≡ channel_in event m → rejoined rx i (by event) ≡ handed rx event m (length d)
  unfolding hand_in handed channel_in
  handed_in Nothing f p = unchanged told_news.Nothing
  handed_in (Message n) f p =
      takes (payload_in n m) p ∙ ap (λ (t : List ℕ). transferred t (receive rx t (length d))) (same_payload n f)
  handed_in Query f p = unchanged told_news.Query
  handed_in (Notice room) f p = unchanged (told_news.Notice room)
  handed_in (Refused refusal) f p = unchanged (told_news.Refused refusal)

  cargo_in_lem : (event : Event) → Fits (length m) event → i ≡ channel_in event m
      → cargo_in sound rx.settings rx.underway (channel_at rx i) event m d ≡ cargo_handed rx event m d
  unfolding cargo_in cargo_handed channel_in
  cargo_in_lem Nothing f p = refl
  cargo_in_lem (Message n) f p = carries (payload_in n m) p ∙ ap (λ (t : List ℕ). cargo_after rx t d) (same_payload n f)
  cargo_in_lem Query f p = refl
  cargo_in_lem (Notice room) f p = refl
  cargo_in_lem (Refused refusal) f p = refl

-- x is what the reader gave, m' its buffer after it, h what became of the event at the channel i, d' the cargo buffer after it
module _ (l : Listener) (input : List ℕ) (from : ℕ) (m d : List ℕ) {sound : Bool} (ok : sound ≡ sound_receiver l.receiver)
    {x : Ran} (ex : x ≡ (read_from l.reader input from m).answer)
    {m' : List ℕ} (em : m' ≡ (read_from l.reader input from m).buffer) {i : ℕ} (ei : i ≡ channel_in x.event m') where
  abbrev rx : Receiver
  rx = l.receiver

  fits : Fits (length m') x.event
  fits =
      let k = ap length em ∙ run_length l.reader (drop from input) (end_from input from) m in
      rw (k, ex) (run_fits l.reader (drop from input) (end_from input from) m)

  pub listened_in : {h : HandedIn} → h ≡ hand_in sound rx.settings rx.underway (channel_at rx i) x.event m' (length d)
      → record { listener = record { reader = x.reader; receiver = with_channel rx i h.channel h.underway }; next = x.next; news = h.news } ≡ listen l input from m (length d)
  listened_in {h} eh =
      let k : rejoined rx i h ≡ handed rx x.event m' (length d) = ap (rejoined rx i) eh ∙ handed_in rx m' d i ok x.event fits ei in
      ap (λ (y : Handed). record { listener = record { reader = x.reader; receiver = y.receiver }; next = x.next; news = y.news }) k ∙ rw (em, ex)

  pub cargo_listened_in : {d' : List ℕ} → d' ≡ cargo_in sound rx.settings rx.underway (channel_at rx i) x.event m' d
      → d' ≡ cargo_listened l input from m d
  cargo_listened_in ed = ed ∙ cargo_in_lem rx m' d i ok x.event fits ei ∙ rw (em, ex)

  pub sound_listened : sound ≡ sound_receiver (listen l input from m (length d)).listener.receiver
  sound_listened = ok ∙ sym (handed_sound rx _ _ (length d))
