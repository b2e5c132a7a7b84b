use Rattle.std.proofs.Common.{sym, arith}
use Rattle.sender.proofs.Coming.{coming}
use Rattle.sender.proofs.Ready.{ready}
use Rattle.sender.proofs.Sender.next.Goals as goal

pub overflow_sub-left : goal.overflow_sub-left
overflow_sub-left c =
    let l = (ready _ _ _ _ _ _ (sym c.in_ok-judge.ensures)).less in
    let e = c.held-from.ensures in
    omega arith

pub size_of-size-requires : goal.size_of-size-requires
size_of-size-requires c =
    let r = ready _ _ _ _ _ _ (sym c.in_ok-judge.ensures) in
    let l = r.short in
    let h = r.fits.range.high in
    omega arith

pub overflow_add-header : goal.overflow_add-header
overflow_add-header c =
    let a = c.args in
    let k = coming a.self a.channel a.m a.room (sym c.in_ok-judge.ensures) c.held-from.ensures c.size_of-size.ensures in
    omega arith

pub bounds-self-channel : goal.bounds-self-channel
bounds-self-channel c =
    let a = c.args in
    let k = coming a.self a.channel a.m a.room (sym c.in_ok-judge.ensures) c.held-from.ensures c.size_of-size.ensures in
    omega arith

pub bounds-self-channel-2 : goal.bounds-self-channel-2
bounds-self-channel-2 c =
    let a = c.args in
    let k = coming a.self a.channel a.m a.room (sym c.in_ok-judge.ensures) c.held-from.ensures c.size_of-size.ensures in
    omega arith

pub bounds-self-channel-3 : goal.bounds-self-channel-3
bounds-self-channel-3 c =
    let a = c.args in
    let k = coming a.self a.channel a.m a.room (sym c.in_ok-judge.ensures) c.held-from.ensures c.size_of-size.ensures in
    omega arith

pub overflow_sub-size : goal.overflow_sub-size
overflow_sub-size c =
    let a = c.args in
    let k = coming a.self a.channel a.m a.room (sym c.in_ok-judge.ensures) c.held-from.ensures c.size_of-size.ensures in
    omega arith

pub overflow_add-from : goal.overflow_add-from
overflow_add-from c =
    let a = c.args in
    let k = coming a.self a.channel a.m a.room (sym c.in_ok-judge.ensures) c.held-from.ensures c.size_of-size.ensures in
    omega arith
