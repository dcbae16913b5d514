use Rattle.mq_exec.proofs.Cuts.{cut-comes}
use Rattle.mq_exec.proofs.truncate.shorten.Goals as goal

pub returns-clause-ok : goal.returns-clause-ok
returns-clause-ok c v agrees q =
    let e = c.in_ok-cutting.ensures in
    let plan = e.ok v agrees in
    cut-comes c.args.working.now.geometry q v c.in_ok-cutting.cutting c.args.found.now.number c.args.size c.args.working.now c.carry_cut.new.working agrees e.number.0 e.number.1 plan (c.in_ok-carry_cut.ensures.cut v agrees plan)
