use Rattle.std.proofs.Common.{arith, refl, sym, ◌∙◌}
use Rattle.joining.specs.Channel.{fresh_channel}
use Rattle.export.specs.Receivers.{channels_in}
use Rattle.export.proofs.Channels.{channels_length, channel_at_lem, channel_kept, none_stored, channel_stored, channels_stored}
use Rattle.export.proofs.receivers.settle.Goals as goal

pub loop-i-init : goal.loop-i-init
loop-i-init c = let row = c.args.row.now in (omega arith, refl, none_stored row (channels_in row 32), λ j h l. refl)

pub loop-i-preserved : goal.loop-i-preserved
loop-i-preserved c =
    let k = c.loop-i.invariant in
    let l = c.loop-i in
    let row = c.args.row.now in
    let e = c.channel_in.ensures ∙ k.3 l.i (omega arith) (omega arith) ∙ sym (channel_at_lem row 32 l.i fresh_channel (omega arith)) in
    let p = c.put_channel.ensures in (
      omega arith,
      omega arith,
      p ∙ channel_stored row (channels_in row 32) (omega arith) (channels_length row 32) l.row l.i c.channel_in.result fresh_channel k.2 (omega arith) e,
      λ j h m. rw p (channel_kept l.row l.i c.channel_in.result j (omega arith) m ∙ k.3 j (omega arith) m),
    )

pub returns : goal.returns
returns c =
    let k = c.loop-i.invariant in
    let row = c.args.row.now in
    channels_stored row (channels_in row 32) (omega arith) (channels_length row 32) _ c.loop-i.i k.2 (omega arith)
