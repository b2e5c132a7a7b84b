use Rattle.std.proofs.Common.{◌≡◌, ℕ, ◌<◌, List, length, ap, arith, rules, le-ltb, lt-ltb}
use Rattle.reader.specs.declared.slices.Ran.{Ran}
use Rattle.reader.specs.Run.{read_from}
use Rattle.reader.proofs.Onward.{onward}
use Rattle.whole.specs.Tallies.{event_counted}
use Rattle.whole.specs.Streams.{Reading, read_turn}
use Rattle.whole.proofs.Turns.{goes_on, ends}
use Rattle.whole.proofs.streams.read_all.Invariants.{more, left}
use Rattle.whole.proofs.streams.read_all.Goals as goal

turned : (input : List ℕ) (s : Reading) {x : Ran} → x ≡ (read_from s.reader input s.at s.message).answer
    → {m : List ℕ} → m ≡ (read_from s.reader input s.at s.message).buffer → {t : List ℕ} → t ≡ event_counted s.tally x.event
    → record { reader = x.reader; at = x.next; message = m; tally = t } ≡ read_turn input s
turned input s ex em et = rw (et, em, ex)

pub loop-at-smaller : goal.loop-at-smaller
loop-at-smaller c =
    let l = c.loop-at in
    let ran = c.read-ran in
    let n : l.at < ran.result.next = rw ran.ensures.value (onward l.reader c.args.input.now l.at l.message c.loop-at-test.true) in
    omega arith

pub loop-at-preserved : goal.loop-at-preserved
loop-at-preserved c =
    let i = c.args.input.now in
    let l = c.loop-at in
    let t = c.loop-at-test.true in
    let ran = c.read-ran in
    let n : l.at < ran.result.next = rw ran.ensures.value (onward l.reader i l.at l.message t) in
    let was : Reading = record { reader = l.reader; at = l.at; message = l.message; tally = l.tally } in
    (search rules, search rules, search rules, goes_on (more i) (read_turn i) (left i) (length i) _ was _ l.invariant.3 (lt-ltb l.at (length i) t) (turned i was ran.ensures.value ran.ensures.buf_after c.count_event.ensures) (omega arith))

pub returns-clause-message_after : goal.returns-clause-message_after
returns-clause-message_after c =
    let i = c.args.input.now in
    let l = c.loop-at in
    ap (λ (s : Reading). s.message) (ends (more i) (read_turn i) (left i) (length i) _ _ l.invariant.3 (le-ltb l.at (length i) c.loop-at-test.false))

pub returns-clause-tally_after : goal.returns-clause-tally_after
returns-clause-tally_after c =
    let i = c.args.input.now in
    let l = c.loop-at in
    ap (λ (s : Reading). s.tally) (ends (more i) (read_turn i) (left i) (length i) _ _ l.invariant.3 (le-ltb l.at (length i) c.loop-at-test.false))
