use mathlib.Core.Path.{◌≡◌}
use native.Mathlib.Omega.{arith}
use lib.ListN.{length}
use Rattle.export.proofs.RowsStored.{receiver_row}
use Rattle.std.proofs.Common.{rules}
use Rattle.export.proofs.receivers.store_receiver.Goals as goal

pub returns : goal.returns
returns c =
    let a = c.args in
    let s = c.limits.result in
    let m : length s ≡ 6 = search rules in
    let l : length c.store_channels.new.row ≡ length a.row.now = search rules in
    receiver_row a.r a.row.now _ _ s (omega arith) l m c.limits.ensures c.store_channels.ensures c.store.ensures
