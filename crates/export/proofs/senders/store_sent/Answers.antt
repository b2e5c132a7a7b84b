use mathlib.Core.Path.{◌≡◌}
use lib.ListN.{length}
use Rattle.export.proofs.RowsStored.{sent_row}
use Rattle.std.proofs.Common.{rules}
use Rattle.export.proofs.senders.store_sent.Goals as goal

pub returns : goal.returns
returns c =
    let a = c.args in
    let l : length c.store_sender.new.row ≡ length a.row.now = search rules in
    sent_row a.s a.written a.row.now _ _ c.requires c.store_sender.ensures l c.store.ensures
