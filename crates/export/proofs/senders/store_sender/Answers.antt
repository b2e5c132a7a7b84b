use mathlib.Core.Path.{◌≡◌, refl}
use lib.ListN.{length}
use Rattle.export.proofs.RowsStored.{sender_row}
use Rattle.std.proofs.Common.{rules}
use Rattle.export.proofs.senders.store_sender.Goals as goal

pub returns : goal.returns
returns c =
    let a = c.args in
    let g = c.store_counters.ensures in
    let s = c.limits.result in
    let m : length s ≡ 6 = search rules in
    sender_row a.s a.row.now _ _ _ s _ g.counters_len m c.limits.ensures refl g.row_after c.store.ensures c.store-2.ensures
