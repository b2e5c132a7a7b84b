use Rattle.std.proofs.Common.{arith}
use Rattle.sender.proofs.Closing.{refused_out, four, fits, sent_out}
use Rattle.sender.proofs.Sender.send.Goals as goal

pub returns-in_err-next-clause-out_after : goal.returns-in_err-next-clause-out_after
returns-in_err-next-clause-out_after c = let a = c.args in refused_out a.self a.channel a.cargo.now a.out.now c.in_err-next.ensures

pub overflow_sub-next : goal.overflow_sub-next
overflow_sub-next c = let a = c.args in four a.self a.channel a.cargo.now a.out.now c.in_ok-next.ensures

pub write-requires : goal.write-requires
write-requires c =
    let a = c.args in
    let k = fits a.self a.channel a.cargo.now a.out.now c.in_ok-next.ensures in
    (k.0, k.1, omega (arith, k.2), k.3)

pub returns-clause-out_after : goal.returns-clause-out_after
returns-clause-out_after c = let a = c.args in sent_out a.self a.channel a.cargo.now a.out.now c.in_ok-next.ensures c.write.new.out (let w = c.write.ensures in cc)
