use Rattle.std.proofs.Common.{arith}
use Rattle.laws.proofs.Tests.{went}
use Rattle.sender.proofs.Ready.{fit, sent_less}
use Rattle.sender.proofs.Sender.judge.Goals as goal

pub overflow_sub-self : goal.overflow_sub-self
overflow_sub-self c = let l = (fit _ _ _ (went c.is_sound.ensures c.if-not-is_sound.false)).range in omega arith

pub overflow_sub-m : goal.overflow_sub-m
overflow_sub-m c =
    let k = fit _ _ _ (went c.is_sound.ensures c.if-not-is_sound.false) in
    let d = sent_less _ _ _ k.less (went c.is_other.ensures c.if-is_other.false) in
    let e = c.held.ensures in
    omega arith

pub size_of-requires : goal.size_of-requires
size_of-requires c = let l = (fit _ _ _ (went c.is_sound.ensures c.if-not-is_sound.false)).range in omega arith
