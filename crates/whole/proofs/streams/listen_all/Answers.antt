use Rattle.std.proofs.Common.{◌≡◌, ℕ, ◌<◌, List, length, sym, ap, ◌∙◌, arith, rules, le-ltb, lt-ltb}
use Rattle.receiver.specs.State.{sound_receiver}
use Rattle.listener.specs.declared.Listened.{Listened}
use Rattle.reader.specs.Run.{read_from}
use Rattle.listener.specs.Listen.{listen, cargo_listened}
use Rattle.reader.proofs.Onward.{onward}
use Rattle.parts.proofs.Listens.{channel_below, listened_in, cargo_listened_in, sound_listened}
use Rattle.whole.specs.Tallies.{news_counted}
use Rattle.whole.specs.Streams.{Listening, listen_turn}
use Rattle.whole.proofs.Turns.{goes_on, ends}
use Rattle.whole.proofs.streams.listen_all.Invariants.{more, left}
use Rattle.whole.proofs.streams.listen_all.Goals as goal

turned : (input : List ℕ) (s : Listening) {y : Listened} → y ≡ listen s.listener input s.at s.message (length s.cargo)
    → {m : List ℕ} → m ≡ (read_from s.listener.reader input s.at s.message).buffer
    → {d : List ℕ} → d ≡ cargo_listened s.listener input s.at s.message s.cargo → {t : List ℕ} → t ≡ news_counted s.tally y.news
    → record { listener = y.listener; at = y.next; message = m; cargo = d; tally = t } ≡ listen_turn input s
turned input s ey em ed et = rw (et, ed, em, ey)

pub offset_bounds-channels-i : goal.offset_bounds-channels-i
offset_bounds-channels-i c = let b : c.channel_in-i.result < 32 = rw c.channel_in-i.ensures (channel_below _ _) in search rules

pub bounds-channels-i : goal.bounds-channels-i
bounds-channels-i c = rw c.channel_in-i.ensures (channel_below _ _)

pub offset_bounds-channels-i-in-loop-at : goal.offset_bounds-channels-i-in-loop-at
offset_bounds-channels-i-in-loop-at c = let b : c.channel_in-i.result < 32 = rw c.channel_in-i.ensures (channel_below _ _) in search rules

pub bounds-channels-i-in-loop-at : goal.bounds-channels-i-in-loop-at
bounds-channels-i-in-loop-at c = rw c.channel_in-i.ensures (channel_below _ _)

pub loop-at-smaller : goal.loop-at-smaller
loop-at-smaller c =
    let l = c.loop-at in
    let ran = c.read-ran in
    let n : l.at < ran.result.next = rw ran.ensures.value (onward l.reader c.args.input.now l.at l.message c.loop-at-test.true) in
    omega arith

pub loop-at-preserved : goal.loop-at-preserved
loop-at-preserved c =
    let a = c.args in
    let i = a.input.now in
    let l = c.loop-at in
    let t = c.loop-at-test.true in
    let ran = c.read-ran in
    let n : l.at < ran.result.next = rw ran.ensures.value (onward l.reader i l.at l.message t) in
    let was : Listening = record { listener = record { reader = l.reader; receiver = record { settings = a.settings; channels = l.channels; underway = l.underway } }; at = l.at; message = l.message; cargo = l.cargo; tally = l.tally } in
    let i' = c.channel_in-i.ensures in
    let h = c.hand_in-handed.ensures in
    let y = listened_in was.listener i l.at l.message l.cargo l.invariant.4 ran.ensures.value ran.ensures.buf_after i' h.value in
    let d = cargo_listened_in was.listener i l.at l.message l.cargo l.invariant.4 ran.ensures.value ran.ensures.buf_after i' h.cargo_after in
    let s = sound_listened was.listener i l.at l.message l.cargo l.invariant.4 ran.ensures.value ran.ensures.buf_after i' in (
      search rules,
      search rules,
      search rules,
      search rules,
      s ∙ sym (ap (λ (z : Listened). sound_receiver z.listener.receiver) y),
      goes_on (more i) (listen_turn i) (left i) (length i) _ was _ l.invariant.5 (lt-ltb l.at (length i) t) (turned i was y ran.ensures.buf_after d c.count_news.ensures) (omega arith),
    )

pub returns-clause-message_after : goal.returns-clause-message_after
returns-clause-message_after c =
    let i = c.args.input.now in
    let l = c.loop-at in
    ap (λ (s : Listening). s.message) (ends (more i) (listen_turn i) (left i) (length i) _ _ l.invariant.5 (le-ltb l.at (length i) c.loop-at-test.false))

pub returns-clause-cargo_after : goal.returns-clause-cargo_after
returns-clause-cargo_after c =
    let i = c.args.input.now in
    let l = c.loop-at in
    ap (λ (s : Listening). s.cargo) (ends (more i) (listen_turn i) (left i) (length i) _ _ l.invariant.5 (le-ltb l.at (length i) c.loop-at-test.false))

pub returns-clause-tally_after : goal.returns-clause-tally_after
returns-clause-tally_after c =
    let i = c.args.input.now in
    let l = c.loop-at in
    ap (λ (s : Listening). s.tally) (ends (more i) (listen_turn i) (left i) (length i) _ _ l.invariant.5 (le-ltb l.at (length i) c.loop-at-test.false))
