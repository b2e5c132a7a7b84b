use Rattle.std.proofs.Common.{◌≡◌, ◌+◌, ℕ, List, ◌++◌, length, ap, ◌∙◌, arith}
use lib.ListN.{length-set}
use lib.Seq.{sets, length-sets}
use Rattle.writer.specs.Message.{escaped}
use Rattle.writer.proofs.Escaped.{escaped_length, joined_escaped, joined_stored, message_stored}
use Rattle.writer.proofs.put_message.Goals as goal

-- both parts, put as one: where they end, and the output with them
module _ (a b : List ℕ) (at end : ℕ) (n : at ≡ 2 + length (escaped a)) (k : end ≡ at + length (escaped b)) where
  placed : end ≡ 2 + length (escaped (a ++ b))
  placed = omega (arith, joined_escaped a b)

  put : (out out' out'' : List ℕ) → out' ≡ sets out 2 (escaped a) → out'' ≡ sets out' at (escaped b) → out'' ≡ sets out 2 (escaped (a ++ b))
  put out out' out'' p q = q ∙ rw (n, p) (joined_stored out 2 a b)

pub put_all-at-requires : goal.put_all-at-requires
put_all-at-requires c =
    let a = c.args in
    let j = joined_escaped a.front.now a.back.now in
    let e = escaped_length (a.front.now ++ a.back.now) in
    simp length-set (omega arith)

pub put_all-end-requires : goal.put_all-end-requires
put_all-end-requires c =
    let a = c.args in
    let j = joined_escaped a.front.now a.back.now in
    let e = escaped_length (a.front.now ++ a.back.now) in
    let n = c.put_all-at.ensures.value in
    let o = simp (length-sets, length-set) at (ap length c.put_all-at.ensures.out_after) in
    omega arith

pub bounds-out-end : goal.bounds-out-end
bounds-out-end c =
    let a = c.args in
    let s = c.put_all-at.ensures in
    let t = c.put_all-end.ensures in
    let e = escaped_length (a.front.now ++ a.back.now) in
    let n = placed a.front.now a.back.now _ _ s.value t.value in
    let o = simp (length-sets, length-set) at (ap length (put a.front.now a.back.now _ _ s.value t.value _ _ _ s.out_after t.out_after)) in
    omega arith

pub returns : goal.returns
returns c =
    let a = c.args in
    let s = c.put_all-at.ensures in
    let t = c.put_all-end.ensures in
    let e = escaped_length (a.front.now ++ a.back.now) in
    let n = placed a.front.now a.back.now _ _ s.value t.value in
    let o = put a.front.now a.back.now _ _ s.value t.value _ _ _ s.out_after t.out_after in
    rw (n, o) (message_stored a.id (a.front.now ++ a.back.now) a.out.now (omega arith) (omega arith))
