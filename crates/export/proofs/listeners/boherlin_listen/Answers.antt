use Prim.Native.Nat.{ℕ, ◌-◌, ◌<◌}
use mathlib.Core.Path.{◌≡◌, refl, sym, ap, ◌∙◌}
use mathlib.Core.Bool.{Bool}
use mathlib.Core.List.{List, [], ◌∷◌, ◌++◌}
use native.Mathlib.Omega.{arith}
use lib.ListN.{length, get_or, take, drop}
use lib.Seq.{paste, take_all}
use borrow.Author.Tests.{eq-eqb}
use Rattle.verdict.specs.declared.Settings.{Settings}
use Rattle.std.specs.Prelude.{Option}
use Rattle.joining.specs.declared.Cargo.{Cargo}
use Rattle.joining.specs.declared.channels.Channel.{Channel}
use Rattle.joining.specs.Channel.{fresh_channel}
use Rattle.receiver.specs.State as states
use Rattle.receiver.specs.State.{sound_receiver, channel_at, with_channel}
use Rattle.reader.specs.declared.Reader.{Reader}
use Rattle.reader.specs.declared.slices.Ran.{Ran}
use Rattle.reader.specs.Run.{read_from}
use Rattle.listener.specs.declared.Listener.{Listener}
use Rattle.listener.specs.declared.Listened.{Listened}
use Rattle.listener.specs.Listen.{news_number, listen}
use Rattle.parts.specs.declared.HandedIn.{HandedIn}
use Rattle.parts.specs.Parts as hands
use Rattle.parts.proofs.Listens.{channel_below, listened_in, cargo_listened_in}
use Rattle.export.specs.Receivers.{channel_in, receiver_of, receiver_numbers}
use Rattle.export.specs.Readers.{phase_number, reader_of}
use Rattle.export.specs.Listeners.{listener_of, news_answer, news_kind, news_value, listened_numbers, listen_number, row_listened, message_listened, cargo_held}
use Rattle.export.proofs.Channels.{channel_at_lem}
use Rattle.laws.proofs.Fills.{fill, filled, full}
use Rattle.std.proofs.Common.{rules}
use Rattle.std.proofs.lemmas.List.{get_or-drop, length-drop}
use Rattle.export.proofs.listeners.boherlin_listen.Goals as goal

-- the reader is read of the row from its place 140 on
reader_is : (row : List ℕ) → length row ≡ 145 → {r : Reader} → r ≡ reader_of (take (length row - 140) (drop 140 row)) → r ≡ (listener_of row).reader
reader_is row all e =
    let d = length-drop 140 row in
    let t : take (length row - 140) (drop 140 row) ≡ drop 140 row = take_all _ _ (omega arith) in
    let p : get_or (drop 140 row) 0 0 ≡ get_or row 140 0 = get_or-drop 140 row 0 0 in
    let h : get_or (drop 140 row) 1 0 ≡ get_or row 141 0 = get_or-drop 140 row 1 0 in
    e ∙ rw (t, p, h)

module _ (row input message cargo : List ℕ) (from : ℕ) (all : length row ≡ 145) {reader : Reader} (el : reader ≡ (listener_of row).reader)
    {x : Ran} (ex : x ≡ (read_from reader input from message).answer) {message' : List ℕ} (em : message' ≡ (read_from reader input from message).buffer)
    {settings : Settings} (es : settings ≡ (receiver_of row).settings) {underway : Option Cargo} (eu : underway ≡ (receiver_of row).underway)
    {sound : Bool} (ok : sound ≡ states.sound settings underway) {i : ℕ} (ei : i ≡ hands.channel_in x.event message') (below : i < 32)
    {c : Channel} (ec : c ≡ channel_in row i) {h : HandedIn} (eh : h ≡ hands.hand_in sound settings underway c x.event message' (length cargo))
    {cargo' : List ℕ} (ed : cargo' ≡ hands.cargo_in sound settings underway c x.event message' cargo) where
  abbrev l : Listener
  l = listener_of row

  abbrev Kept : ℕ → List ℕ → Type 0
  Kept n row' =
      (n ≡ listen_number row input from message (length cargo))
      × ((row' ≡ row_listened row input from message (length cargo))
      × ((message' ≡ message_listened row input from message) × (cargo' ≡ cargo_held row input from message cargo)))

  is_sound : sound ≡ sound_receiver l.receiver
  is_sound = ok ∙ rw (es, eu)

  channel_is : c ≡ channel_at l.receiver i
  channel_is = ec ∙ sym (channel_at_lem row 32 i fresh_channel below)

  ran_is : x ≡ (read_from l.reader input from message).answer
  ran_is = ex ∙ rw el

  buffer_is : message' ≡ (read_from l.reader input from message).buffer
  buffer_is = em ∙ rw el

  abbrev heard : Listened
  heard = record { listener = record { reader = x.reader; receiver = with_channel l.receiver i h.channel h.underway }; next = x.next; news = h.news }

  listened : (s : List ℕ) → s ≡ news_answer h.news
      → (y : List ℕ) → y ≡ receiver_numbers heard.listener.receiver ++ s ++ drop 140 row → length y ≡ length row
      → (told : List ℕ) → told ≡ phase_number x.reader.phase ∷ x.reader.held ∷ news_kind h.news ∷ news_value h.news ∷ x.next ∷ []
      → {row' : List ℕ} → row' ≡ paste y 140 told (length told) → {n : ℕ} → n ≡ news_number h.news → Kept n row'
  unfolding listen_number row_listened message_listened cargo_held
  listened s es' y ey ly told et {row'} er en =
      let g = eq-eqb (length row) 145 all in
      let u : heard ≡ listen l input from message (length cargo) =
      listened_in l input from message cargo is_sound ran_is buffer_is ei (eh ∙ rw (es, eu, channel_is)) in
      let k : length told ≡ 5 = ap length et in
      let f = fill told row' (length told) 145 (filled row (receiver_numbers heard.listener.receiver ++ s) y 140 ey ly (omega arith)) refl (omega arith) er in
      let t : row' ≡ listened_numbers heard = full row _ row' 145 f all ∙ rw (es', et) in (
        simp g (en ∙ ap (λ (q : Listened). news_number q.news) u),
        (
          simp g (t ∙ ap listened_numbers u),
          (
            simp g buffer_is,
            simp g (cargo_listened_in l input from message cargo is_sound ran_is buffer_is ei (ed ∙ rw (es, eu, channel_is))),
          ),
        ),
      )

pub channel_in-channel-requires : goal.channel_in-channel-requires
channel_in-channel-requires c =
    let b : c.channel_in-i.result < 32 = rw c.channel_in-i.ensures (channel_below _ _) in
    (omega arith, omega arith)

pub store_after-requires : goal.store_after-requires
store_after-requires c =
    let b : c.channel_in-i.result < 32 = rw c.channel_in-i.ensures (channel_below _ _) in
    (omega arith, omega arith)

-- what the call leaves of the row and of both buffers, and its answer
all : (c : goal.After-number-2)
    → (c.number-2.result ≡ listen_number c.args.row.now c.args.input.now c.args.from c.args.message.now (length c.args.cargo.now))
    × ((c.store.new.row ≡ row_listened c.args.row.now c.args.input.now c.args.from c.args.message.now (length c.args.cargo.now))
    × ((c.read-ran.new.buf ≡ message_listened c.args.row.now c.args.input.now c.args.from c.args.message.now)
    × (c.hand_in-handed.new.cargo ≡ cargo_held c.args.row.now c.args.input.now c.args.from c.args.message.now c.args.cargo.now)))
all c =
    let a = c.args in
    let k = c.read-ran.ensures in
    let h = c.hand_in-handed.ensures in
    let b : c.channel_in-i.result < 32 = rw c.channel_in-i.ensures (channel_below _ _) in
    let s = c.news_answer.result in
    let l : length c.store_after.new.row ≡ length a.row.now = search rules in
    listened a.row.now a.input.now a.message.now a.cargo.now a.from c.if-row-ne-ROW.false (reader_is a.row.now c.if-row-ne-ROW.false c.load_reader.ensures) k.value k.buf_after c.settings_in-settings.ensures c.underway_in-underway.ensures c.is_sound-sound.ensures
    c.channel_in-i.ensures b c.channel_in-channel.ensures h.value h.cargo_after s c.news_answer.ensures _ c.store_after.ensures l _ c.told_numbers.ensures c.store.ensures c.number-2.ensures

pub returns-clause-value : goal.returns-clause-value
returns-clause-value c = (all c).0

pub returns-clause-row_after : goal.returns-clause-row_after
returns-clause-row_after c = (all c).1.0

pub returns-clause-message_after : goal.returns-clause-message_after
returns-clause-message_after c = (all c).1.1.0

pub returns-clause-cargo_after : goal.returns-clause-cargo_after
returns-clause-cargo_after c = (all c).1.1.1
