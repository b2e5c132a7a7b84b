use Rattle.std.proofs.Common.{arith, sym, ◌∙◌}
use Rattle.verdict.proofs.Checked.{accepted}
use Rattle.step.proofs.steps.step_in.Goals as goal

pub go_on-requires : goal.go_on-requires
go_on-requires c =
    let a = accepted _ _ _ _ _ (sym c.judge.ensures ∙ c.in_ok-h.was) in
    let l = a.roomy in
    let h = a.read.taken in
    let w = a.stands.whole in
    (omega arith, omega arith, omega arith)
