use Rattle.std.proofs.Common.{arith, map, length-set}
use Rattle.header.specs.Sequence.{fresh_counter}
use Rattle.export.specs.Fields.{counter_number}
use Rattle.laws.proofs.Maps.{store_turn, stored}
use Rattle.export.proofs.places.store_counters.Goals as goal

pub loop-i-preserved : goal.loop-i-preserved
loop-i-preserved c =
    let k = c.loop-i.invariant in
    let a = c.args in
    let l = k.2 in
    (omega arith, simp length-set k.1, l, store_turn counter_number a.row.now _ a.counters a.at _ fresh_counter _ k.3 (omega arith) (omega arith) c.counter_number.ensures)

pub returns-clause-row_after : goal.returns-clause-row_after
returns-clause-row_after c = let a = c.args in stored a.row.now _ (map counter_number a.counters) a.at c.loop-i.i 32 c.loop-i.invariant.3 (omega arith)
