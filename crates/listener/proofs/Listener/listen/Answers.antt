use Rattle.std.proofs.Common.{sym, ap, ◌∙◌, length, drop, arith}
use Rattle.reader.specs.declared.slices.Ran.{Ran}
use Rattle.reader.specs.Run.{end_from}
use Rattle.reader.proofs.Fits.{fitting, run_fits, run_length}
use Rattle.listener.proofs.Listener.listen.Goals as goal

pub hand-news-requires : goal.hand-news-requires
hand-news-requires c = λ n e.
    let a = c.args in
    let i = a.input.now in
    let p = c.read-ran.ensures in
    let f = fitting (length a.message.now) (run_fits a.self.reader (drop a.from i) (end_from i a.from) a.message.now) (ap (λ (x : Ran). x.event) (sym p.value) ∙ e) in
    let l = ap length p.buf_after ∙ run_length a.self.reader (drop a.from i) (end_from i a.from) a.message.now in
    omega arith
