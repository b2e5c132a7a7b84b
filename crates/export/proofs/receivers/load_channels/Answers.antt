use Rattle.std.proofs.Common.{◌≡◌, arith, sym, ◌∙◌, length-set}
use Rattle.std.proofs.Math.Seq.{take_all}
use Rattle.export.proofs.Channels.{channel_loaded}
use Rattle.export.proofs.receivers.load_channels.Goals as goal

pub loop-i-preserved : goal.loop-i-preserved
loop-i-preserved c =
    let k = c.loop-i.invariant in
    let l = k.1 in
    (omega arith, simp length-set l, channel_loaded _ c.args.row.now _ _ k.2 (omega arith) c.channel_in.ensures)

pub returns : goal.returns
returns c =
    let k = c.loop-i.invariant in
    let l = k.1 in
    let e : c.loop-i.i ≡ 32 = omega arith in
    sym (take_all 32 c.loop-i.channels (omega arith)) ∙ rw e at k.2
