use Rattle.std.proofs.Common.{◌++◌, length, sym, ◌∙◌}
use Rattle.writer.proofs.Writing.{writable}
use Rattle.writer.proofs.write_joined.Goals as goal

pub put_message-requires : goal.put_message-requires
put_message-requires c =
    let a = c.args in
    let w = writable a.id (a.front.now ++ a.back.now) (length a.out.now) _ (sym c.measure.ensures ∙ c.in_ok-written.was) in
    (w.known, w.fits)
