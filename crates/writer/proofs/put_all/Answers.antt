use Rattle.std.proofs.Common.{◌≡◌, ◌∙◌, ◌+◌, ℕ, List, ◌++◌, sym, ap, length, drop, get_or, length-append, arith, rules}
use Rattle.std.proofs.lemmas.List.Edits.{sets}
use Rattle.writer.specs.Message.{sent, escaped}
use Rattle.writer.proofs.Escaped.{sets_append, escaped_at, escaped_end}
use Rattle.writer.proofs.put_all.Goals as goal

-- a byte is put, and the rest behind it: as the rest with it
rest : (p out out' : List ℕ) (at at' i : ℕ) → at' ≡ at + length (sent (get_or p i 0)) → out' ≡ sets out at (sent (get_or p i 0))
    → escaped (drop i p) ≡ sent (get_or p i 0) ++ escaped (drop (i + 1) p) → sets out' at' (escaped (drop (i + 1) p)) ≡ sets out at (escaped (drop i p))
rest p out out' at at' i k o e = rw (k, o, e) (sym (sets_append out at (sent (get_or p i 0)) (escaped (drop (i + 1) p))))

pub put-at-requires : goal.put-at-requires
put-at-requires c =
    let e = escaped_at c.args.payload.now c.loop-b.b-index (omega arith) in
    let n = simp length-append at (ap length e) in
    omega arith

pub loop-b-preserved : goal.loop-b-preserved
loop-b-preserved c =
    let p = c.args.payload.now in
    let l = c.loop-b in
    let e = escaped_at p l.b-index (omega arith) in
    let n = simp length-append at (ap length e) in
    let r = c.put-at.ensures.value in
    (search rules, omega arith, rest p l.out _ l.at _ l.b-index r c.put-at.ensures.out_after e ∙ l.invariant.2)

pub returns-clause-value : goal.returns-clause-value
returns-clause-value c =
    let e = escaped_end c.args.payload.now c.loop-b.b-index (omega arith) in
    let n = ap length e in
    omega arith

pub returns-clause-out_after : goal.returns-clause-out_after
returns-clause-out_after c =
    let l = c.loop-b in
    let e = escaped_end c.args.payload.now l.b-index (omega arith) in
    ap (sets l.out l.at) (sym e) ∙ l.invariant.2
