-- Demand 3 under permits, proved.
use mathlib.Core.Path.{refl, ◌∙◌}
use mathlib.Core.List.{map-id}
use lib.ListN.{length}
use Rattle.link.proofs.Kept.{demand_3}
use Rattle.writer.specs.Message.{message as message_of}
use Rattle.stream.specs.Stream as stream
use Rattle.stream.proofs.Carried.{carried_over_uart}
use Rattle.stream.proofs.Kept.{demand_3_over_uart}
use Rattle.permitted.specs.Run.{fresh, plainly}
use Rattle.permitted.specs.Demand.{KeptUnderPermits, KeptOverUart}
use Rattle.permit.specs.Send.{transfers, messages}
use Rattle.permit.proofs.Claimed.{transfers_ask, messages_ask}
use Rattle.permitted.proofs.Same.{run_same}

pub demand_3_under_permits : KeptUnderPermits
demand_3_under_permits g buffer out xs A =
    let S = run_same transfers transfers_ask (λ t. t) (λ s channel cargo. refl) g.largest xs (fresh g out) (stream.start g out) record { sender = refl; room = refl; arrived = refl } in
    record { sender = S.sender; arrived = S.arrived ∙ map-id _; concluded = demand_3 g buffer out (plainly transfers g out xs) A }

pub demand_3_under_permits_over_uart : KeptOverUart
demand_3_under_permits_over_uart g message buffer out noise rest between slices xs A long H e =
    let plain = plainly messages g out xs in
    let S = run_same messages messages_ask (message_of 1) (λ s channel cargo. refl) g.largest xs (fresh g out) (stream.start g out) record { sender = refl; room = refl; arrived = refl } in
    let carried = carried_over_uart g out noise rest between plain (length message) H long in
    demand_3_over_uart g message buffer out slices plain A (rw (e, S.arrived) carried)
