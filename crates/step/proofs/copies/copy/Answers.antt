use Rattle.std.proofs.Common.{◌≡◌, ◌+◌, ◌-◌, arith, ap, ◌∙◌, drop}
use Rattle.std.proofs.Math.Seq.{paste}
use Rattle.laws.proofs.Pastes.{copied}
use Rattle.step.proofs.copies.copy.Goals.{else-loop-i-test, then-loop-i-test+else-last-i-gt32}
use Rattle.step.proofs.copies.copy.Goals as goal

pub loop-i-preserved : goal.loop-i-preserved
loop-i-preserved c =
    let k = c.loop-i.invariant in
    let a = c.args in
    (omega arith, omega arith, copied a.dst.now a.src.now c.loop-i.dst _ a.from a.at c.loop-i.i c.loop-i.i 32 k.2 c.block.ensures (omega arith) (omega arith) (omega arith) (omega arith))

pub returns : goal.returns
returns c =
    let k = c.loop-i.invariant in
    let a = c.args in
    let i = c.loop-i.i in
    let e : a.n - 32 + 32 ≡ a.n = omega arith in
    elim c.loop-i-test.branch [
      | else-loop-i-test w ↦
          copied a.dst.now a.src.now c.loop-i-test.dst _ a.from a.at i (a.n - 32) 32 (w.dst-is ∙ k.2) c.block-2.ensures (omega arith) (omega arith) (omega arith) (omega arith)
          ∙ ap (paste a.dst.now a.at (drop a.from a.src.now)) e
      | then-loop-i-test+else-last-i-gt32 w ↦
          let b = copied a.dst.now a.src.now c.loop-i.dst _ a.from a.at i i 32 k.2 w.block.ensures (omega arith) (omega arith) (omega arith) (omega arith) in
          copied a.dst.now a.src.now c.loop-i-test.dst _ a.from a.at (i + 32) (a.n - 32) 32 (w.dst-is ∙ b) c.block-2.ensures (omega arith) (omega arith) (omega arith) (omega arith)
          ∙ ap (paste a.dst.now a.at (drop a.from a.src.now)) e
    ]
