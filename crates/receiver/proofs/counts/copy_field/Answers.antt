use Rattle.std.proofs.Common.{arith, length-set}
use Rattle.joining.specs.Channel.{fresh_channel}
use Rattle.laws.proofs.Maps.{store_turn}
use Rattle.receiver.specs.Counts as counts
use Rattle.receiver.proofs.counts.copy_field.Goals as goal

pub loop-j-preserved : goal.loop-j-preserved
loop-j-preserved c =
    let k = c.loop-j.invariant in
    let h = k.2 in
    let a = c.args in
    (omega arith, simp length-set (omega arith), k.2, store_turn (counts.field_of a.repeats) a.row.now _ a.channels.now a.at c.loop-j.j fresh_channel _ k.3 (omega arith) (omega arith) c.field_of.ensures)
