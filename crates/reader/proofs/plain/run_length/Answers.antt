use Rattle.std.proofs.Common.{◌≡◌, ◌≤◌, ◌+◌, ◌-◌, ℕ, List, length, take, drop, arith, rules, length-drop}
use Rattle.std.specs.List.{prefix_len}
use Rattle.std.proofs.lemmas.List.{take_all}
use Rattle.std.proofs.lemmas.List.Sums.{prefix_len-le-length}
use Rattle.writer.specs.Message.{escapes}
use Rattle.reader.proofs.PlainBytes.{is_plain, escapes_joined, plain_front}
use Rattle.reader.proofs.plain.run_length.Goals as goal

-- the plain bytes from a place on
ahead : (s : List ℕ) (k n : ℕ) → n ≡ prefix_len is_plain (take (length s - k) (drop k s)) → (n ≤ length s - k) × (escapes (take n (drop k s)) ≡ 0)
ahead s k n e =
    let t = take_all (length s - k) (drop k s) (rw length-drop (omega arith)) in
    let f : n ≡ prefix_len is_plain (drop k s) = rw t at e in
    (rw (f, ← length-drop k s) (prefix_len-le-length is_plain (drop k s)), rw f (plain_front (drop k s)))

pub loop-k-preserved : goal.loop-k-preserved
loop-k-preserved c =
    let n : c.loop-k.k + 16 - c.loop-k.k ≡ 16 = omega arith in
    let p = rw n at (c.are_plain.ensures c.if-are_plain.true) in
    let j = escapes_joined c.args.bytes.now c.loop-k.k 16 in
    (omega arith, omega arith)

pub overflow_add-result : goal.overflow_add-result
overflow_add-result c = let b = ahead c.args.bytes.now c.loop-k.k _ c.plain_front.ensures in search rules

pub returns-clause-upper_bound : goal.returns-clause-upper_bound
returns-clause-upper_bound c = let b = ahead c.args.bytes.now c.loop-k.k _ c.plain_front.ensures in omega arith

pub returns-clause-plain : goal.returns-clause-plain
returns-clause-plain c =
    let b = ahead c.args.bytes.now c.loop-k.k _ c.plain_front.ensures in
    let j = escapes_joined c.args.bytes.now c.loop-k.k c.plain_front.result in
    omega arith
