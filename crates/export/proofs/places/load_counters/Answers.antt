use Rattle.std.proofs.Common.{arith, length-set}
use Rattle.export.specs.Fields.{counter_of}
use Rattle.laws.proofs.Maps.{load_turn, loaded}
use Rattle.export.proofs.places.load_counters.Goals as goal

pub loop-i-preserved : goal.loop-i-preserved
loop-i-preserved c =
    let k = c.loop-i.invariant in
    let a = c.args in
    let l = k.1 in
    (omega arith, simp length-set l, load_turn counter_of _ a.row.now a.at _ 0 _ k.2 (omega arith) (omega arith) c.counter_of.ensures)

pub returns : goal.returns
returns c = let k = c.loop-i.invariant in let a = c.args in loaded counter_of _ a.row.now a.at c.loop-i.i k.2 (omega arith) k.1
