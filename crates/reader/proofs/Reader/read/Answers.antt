use Rattle.std.proofs.Common.{ap, ◌∙◌, rules}
use Rattle.laws.proofs.Tests.{went}
use Rattle.reader.specs.declared.Event.{Event}
use Rattle.reader.specs.Run.{Run}
use Rattle.reader.proofs.Runs.{passed, told, ended}
use Rattle.reader.proofs.Reader.read.Goals as goal

pub returns-then-not-is_quiet-clause-value : goal.returns-then-not-is_quiet-clause-value
returns-then-not-is_quiet-clause-value c =
    let s = c.step-event.ensures in
    let l = c.loop-from in
    ap (λ (x : Run). x.answer) (told c.args.input.now l.from c.loop-from-test.true _ _ _ _ s.value s.buf_after (went c.is_quiet.ensures c.if-not-is_quiet.true) ∙ l.invariant.1)

pub returns-then-not-is_quiet-clause-buf_after : goal.returns-then-not-is_quiet-clause-buf_after
returns-then-not-is_quiet-clause-buf_after c =
    let s = c.step-event.ensures in
    let l = c.loop-from in
    ap (λ (x : Run). x.buffer) (told c.args.input.now l.from c.loop-from-test.true _ _ _ _ s.value s.buf_after (went c.is_quiet.ensures c.if-not-is_quiet.true) ∙ l.invariant.1)

pub loop-from-preserved : goal.loop-from-preserved
loop-from-preserved c =
    let s = c.step-event.ensures in
    let l = c.loop-from in (
      search rules,
      c.skim-skimmed.ensures.buf_after
          ∙ passed c.args.input.now l.from c.loop-from-test.true _ _ _ _ s.value s.buf_after (went c.is_quiet.ensures c.if-not-is_quiet.false)
          ∙ l.invariant.1,
    )

pub returns-clause-value : goal.returns-clause-value
returns-clause-value c =
    let l = c.loop-from in
    ap (λ (x : Run). x.answer) (ap (λ (event : Event). record { answer = record { reader = l.self; next = l.from; event = event }; buffer = l.buf }) c.at_end.ensures
    ∙ ended c.args.input.now l.from l.self l.buf c.loop-from-test.false ∙ l.invariant.1)

pub returns-clause-buf_after : goal.returns-clause-buf_after
returns-clause-buf_after c =
    let l = c.loop-from in
    ap (λ (x : Run). x.buffer) (ended c.args.input.now l.from l.self l.buf c.loop-from-test.false ∙ l.invariant.1)
