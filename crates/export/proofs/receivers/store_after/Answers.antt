use mathlib.Core.Path.{◌≡◌}
use native.Mathlib.Omega.{arith}
use lib.ListN.{length}
use Rattle.export.proofs.RowsStored.{row_after}
use Rattle.std.proofs.Common.{rules}
use Rattle.export.proofs.receivers.store_after.Goals as goal

pub returns : goal.returns
returns c =
    let a = c.args in
    let row = a.row.now in
    let s = c.limits-numbers.result in
    let m : length c.put_channel.new.row ≡ length row = omega arith in
    let k : length s ≡ 6 = search rules in
    let n : length a.told ≡ 6 = search rules in
    row_after row _ _ _ _ s a.told a.i a.channel _ a.underway (omega arith) (omega arith) c.settle.ensures c.put_channel.ensures m
    c.settings_in-settings.ensures c.limits-numbers.ensures k c.store.ensures n c.store-2.ensures
