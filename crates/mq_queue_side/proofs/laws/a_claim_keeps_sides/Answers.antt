use Rattle.mq_queue_side.proofs.SideClaims.{claimed}
use Rattle.mq_queue_side.proofs.SideDraws.{side_along}
use Rattle.mq_queue_side.proofs.laws.a_claim_keeps_sides.Goals as goal

pub returns-clause-done : goal.returns-clause-done
returns-clause-done c k q us s done log is = claimed k q us s log is done

pub returns-clause-changed : goal.returns-clause-changed
returns-clause-changed c = side_along
