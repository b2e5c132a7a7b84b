use Rattle.std.proofs.Common.{rules, length}
use Rattle.console.proofs.calls.PatientWrite.write.Goals as goal

pub returns-clause-bound : goal.returns-clause-bound
returns-clause-bound g c =
    let last = c.again.ensures (λ s. length s.1.now) (λ s a t k. search rules) in
    search rules
