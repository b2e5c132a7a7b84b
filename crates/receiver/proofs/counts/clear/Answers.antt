use Rattle.std.proofs.Common.{arith, length-set}
use Rattle.joining.specs.Channel.{fresh_channel}
use Rattle.laws.proofs.Maps.{map_turn}
use Rattle.receiver.specs.Counts as counts
use Rattle.receiver.proofs.counts.clear.Goals as goal

pub loop-j-preserved : goal.loop-j-preserved
loop-j-preserved c =
    let k = c.loop-j.invariant in
    (omega arith, simp length-set (omega arith), k.2, rw (c.cleared.ensures) (map_turn counts.cleared_channel c.args.channels c.loop-j.channels c.loop-j.j fresh_channel k.3 (omega arith)))
