use Rattle.std.proofs.Common.{sym, ◌∙◌}
use Rattle.std.proofs.lemmas.Result.{err_from_is_err_and}
use Rattle.index.proofs.Growing.{walked_refused}
use Rattle.index.proofs.Index.extend.Goals as goal

pub returns-in_err-entry : goal.returns-in_err-entry
returns-in_err-entry c =
    let p = err_from_is_err_and c.from_residual.result c.from_residual.ensures.1 in
    let refused = walked_refused c.loop-entry.self c.args.cargo.now c.in_err-entry.field-0.0 (sym c.in_err-entry.ensures) c.loop-entry.invariant.0 in
    rw (p.1, p.2) (sym refused ∙ c.loop-entry.invariant.1)
