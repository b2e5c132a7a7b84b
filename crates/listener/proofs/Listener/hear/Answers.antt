use Rattle.std.proofs.Common.{sym, ap, ◌∙◌, length, arith}
use Rattle.reader.specs.declared.Stepped.{Stepped}
use Rattle.reader.proofs.Fits.{fitting, step_fits, step_length}
use Rattle.listener.proofs.Listener.hear.Goals as goal

pub hand-news-requires : goal.hand-news-requires
hand-news-requires c = λ n e.
    let a = c.args in
    let p = c.step-event.ensures in
    let f = fitting (length a.message.now) (step_fits a.self.reader a.b a.message.now) (ap (λ (s : Stepped). s.event) (sym p.value) ∙ e) in
    let l = ap length p.buf_after ∙ step_length a.self.reader a.b a.message.now in
    omega arith
