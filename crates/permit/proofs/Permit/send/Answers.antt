use Rattle.std.proofs.Common.{sym, ◌∙◌}
use Rattle.sender.proofs.Closing.{passed}
use Rattle.sender.proofs.Coming.{refused_next}
use Rattle.permit.specs.Send.{transfers}
use Rattle.permit.proofs.Answering.{refused, own_refused, permit_asked, sent_plainly}
use Rattle.permit.proofs.Permit.send.Goals as goal

pub returns-in_err-header-clause-out_after : goal.returns-in_err-header-clause-out_after
returns-in_err-header-clause-out_after c =
    let a = c.args in
    (refused transfers a.held a.sender a.channel a.cargo.now a.out.now a.clock a.timeout (own_refused transfers a.held a.sender a.channel a.cargo.now a.out.now a.clock a.timeout (refused_next _ _ _ _ c.in_err-header.ensures))).1

pub returns-in_err-ask-clause-out_after : goal.returns-in_err-ask-clause-out_after
returns-in_err-ask-clause-out_after c =
    let a = c.args in
    let own = passed a.sender a.channel a.cargo.now a.out.now c.in_ok-header.ensures in
    let p = permit_asked transfers a.held a.sender a.channel a.cargo.now a.out.now a.clock a.timeout own c.in_ok-header.ensures in
    (refused transfers a.held a.sender a.channel a.cargo.now a.out.now a.clock a.timeout (sym p ∙ sym c.in_err-ask.ensures)).1

pub returns : goal.returns
returns c =
    let a = c.args in
    let own = passed a.sender a.channel a.cargo.now a.out.now c.in_ok-header.ensures in
    let p = permit_asked transfers a.held a.sender a.channel a.cargo.now a.out.now a.clock a.timeout own c.in_ok-header.ensures in
    let w = c.in_ok-sent.ensures in
    let r = sent_plainly a.held a.sender a.channel a.cargo.now a.out.now a.clock a.timeout own (sym p ∙ sym c.in_ok-ask.ensures) w.value w.out_after in
    record { value = (let v = r.0 in cc); out_after = r.1 }
