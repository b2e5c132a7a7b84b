use Rattle.std.proofs.Common.{arith, rules, ◌∙◌, refl}
use Rattle.joining.specs.Channel.{fresh_channel}
use Rattle.export.proofs.Channels.{none_stored, channel_stored, channels_stored}
use Rattle.export.proofs.receivers.store_channels.Goals as goal

pub loop-i-init : goal.loop-i-init
loop-i-init c = let a = c.args in (omega arith, refl, search rules, none_stored a.row.now a.channels)

pub loop-i-preserved : goal.loop-i-preserved
loop-i-preserved c =
    let k = c.loop-i.invariant in
    let l = c.loop-i in
    let a = c.args in
    let row = a.row.now in
    let all = k.2 in
    let p = c.put_channel.ensures in
    (omega arith, omega arith, all, p ∙ channel_stored row a.channels (omega arith) all l.row l.i _ fresh_channel k.3 (omega arith) refl)

pub returns : goal.returns
returns c =
    let k = c.loop-i.invariant in
    let a = c.args in
    channels_stored a.row.now a.channels (omega arith) k.2 _ c.loop-i.i k.3 (omega arith)
