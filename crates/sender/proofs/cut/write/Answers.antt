use Rattle.std.proofs.Common.{◌≡◌, ◌≤◌, ◌+◌, ◌-◌, ◌++◌, ℕ, List, length, take, drop, length-drop, is_ok, arith, ap, sym, ◌∙◌}
use Rattle.std.proofs.Math.Seq.{paste, take_all, length-take-le}
use Rattle.std.proofs.lemmas.Slice.{put_mid-paste}
use Rattle.sender.proofs.Closing.{header_writes, written_law}
use Rattle.sender.proofs.cut.write.Goals as goal

-- a part pasted whole is that many bytes of what it was taken of
part : (d s : List ℕ) (at n : ℕ) → n ≤ length s → paste d at (take n s) n ≡ paste d at s n
part d s at n h =
    let e : take n (take n s) ≡ take n s = take_all n (take n s) (rw (length-take-le n s h) (omega arith)) in
    ap (λ (l : List ℕ). take at d ++ l ++ drop (at + n) d) e

pub unwrap-requires : goal.unwrap-requires
unwrap-requires c = let a = c.args in ap is_ok (c.write.ensures.value ∙ header_writes a.h (length a.out.now) (omega arith) (omega arith) (omega arith))

pub returns : goal.returns
returns c =
    let a = c.args in
    let s = drop a.from a.cargo.now in
    let e : a.from + a.carried - a.from ≡ a.carried = omega arith in
    let f : a.carried ≡ 4 + a.carried - 4 = omega arith in
    let l : a.carried ≤ length s = simp length-drop (omega arith) in
    put_mid-paste 4 (4 + a.carried - 4) c.write.new.out c.copy_from_slice.new.self (take a.carried s) a.carried (c.copy_from_slice.ensures.after ∙ ap (λ (k : ℕ). take k s) e) f (sym (length-take-le a.carried s l))
    ∙ part c.write.new.out s 4 a.carried l
    ∙ written_law a.h a.out.now s _ a.carried (omega arith) (omega arith) (omega arith) c.write.ensures.out_after
