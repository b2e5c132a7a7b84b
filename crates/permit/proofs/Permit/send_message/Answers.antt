use Rattle.std.proofs.Common.{refl, sym, ap, ◌∙◌, is_ok, arith, rules}
use Rattle.std.proofs.lemmas.Grind.{common_steps}
use Rattle.sender.specs.Send.{transfer_at}
use Rattle.sender.proofs.Closing.{header_writes, four, few, fits}
use Rattle.writer.proofs.Writing.{unwritten_out}
use Rattle.permit.specs.Send.{messages}
use Rattle.permit.proofs.Answering.{refused, own_refused, permit_asked, next_refused, joined, writer_asked, writer_refused, message_plainly}
use Rattle.permit.proofs.Permit.send_message.Goals as goal

pub returns-in_err-next-clause-out_after : goal.returns-in_err-next-clause-out_after
returns-in_err-next-clause-out_after c =
    let a = c.args in
    (refused messages a.held a.sender a.channel a.cargo.now a.out.now a.clock a.timeout (own_refused messages a.held a.sender a.channel a.cargo.now a.out.now a.clock a.timeout (next_refused a.sender a.channel a.cargo.now a.out.now c.in_err-next.ensures))).1

pub unwrap-requires : goal.unwrap-requires
unwrap-requires c =
    let a = c.args in
    let e = c.in_ok-next.ensures in
    let f = fits a.sender a.channel a.cargo.now a.out.now e in
    ap is_ok (c.write.ensures.value ∙ header_writes c.in_ok-next.next.header 4 f.0 f.1 (omega arith))

pub overflow_sub-back : goal.overflow_sub-back
overflow_sub-back c =
    let a = c.args in
    let e = c.in_ok-next.ensures in
    four a.sender a.channel a.cargo.now a.out.now e

pub overflow_add-back : goal.overflow_add-back
overflow_add-back c =
    let a = c.args in
    let e = c.in_ok-next.ensures in
    let f = (fits a.sender a.channel a.cargo.now a.out.now e).2 in
    let k = few a.sender a.channel a.cargo.now a.out.now e in
    omega arith

pub slice_bounds-back-end : goal.slice_bounds-back-end
slice_bounds-back-end c =
    let a = c.args in
    let e = c.in_ok-next.ensures in
    let f = (fits a.sender a.channel a.cargo.now a.out.now e).2 in
    search (rules, f)

pub returns-in_err-measure : goal.returns-in_err-measure
returns-in_err-measure c =
    let a = c.args in
    let e = c.in_ok-next.ensures in
    let j = joined a.sender a.channel a.cargo.now a.out.now e _ refl c.write.ensures.out_after in
    let w = rw j at c.in_err-measure.ensures in
    let r = refused messages a.held a.sender a.channel a.cargo.now a.out.now a.clock a.timeout (own_refused messages a.held a.sender a.channel a.cargo.now a.out.now a.clock a.timeout (writer_refused a.sender a.channel a.cargo.now a.out.now e (sym w))) in
    record { value = (let v = r.0 in grind (arith, common_steps)); out_after = r.1 }

pub returns-in-Err : goal.returns-in-Err
returns-in-Err c =
    let a = c.args in
    let e = c.in_ok-next.ensures in
    let j = joined a.sender a.channel a.cargo.now a.out.now e _ refl c.write.ensures.out_after in
    let w = rw j at c.in_ok-measure.ensures in
    let p = permit_asked messages a.held a.sender a.channel a.cargo.now a.out.now a.clock a.timeout (writer_asked a.sender a.channel a.cargo.now a.out.now e (sym w)) e in
    let r = refused messages a.held a.sender a.channel a.cargo.now a.out.now a.clock a.timeout (sym p ∙ sym c.in-Err.ensures) in
    record { value = r.0; out_after = r.1 }

pub returns-in_err-written : goal.returns-in_err-written
returns-in_err-written c =
    let a = c.args in
    let e = c.in_ok-next.ensures in
    let j = joined a.sender a.channel a.cargo.now a.out.now e _ refl c.write.ensures.out_after in
    let w = rw j at c.in_err-written.ensures in
    let r = refused messages a.held a.sender a.channel a.cargo.now a.out.now a.clock a.timeout (own_refused messages a.held a.sender a.channel a.cargo.now a.out.now a.clock a.timeout (writer_refused a.sender a.channel a.cargo.now a.out.now e (sym w.value))) in
    let o = unwritten_out 1 (transfer_at a.sender a.channel a.cargo.now) a.out.now (sym w.value) in
    record { value = (let v = r.0 in grind (arith, common_steps)); out_after = w.out_after ∙ sym o ∙ r.1 }

pub returns : goal.returns
returns c =
    let a = c.args in
    let e = c.in_ok-next.ensures in
    let j = joined a.sender a.channel a.cargo.now a.out.now e _ refl c.write.ensures.out_after in
    let w = rw j at c.in_ok-written.ensures in
    let p = permit_asked messages a.held a.sender a.channel a.cargo.now a.out.now a.clock a.timeout (writer_asked a.sender a.channel a.cargo.now a.out.now e (sym w.value)) e in
    let r = message_plainly a.sender a.channel a.cargo.now a.out.now e a.held a.clock a.timeout (sym w.value) (sym p ∙ sym c.in_default.ensures) w.out_after in
    record { value = r.0; out_after = r.1 }
