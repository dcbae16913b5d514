use Rattle.mq_revoke.proofs.Guard.{may_draw}
use Rattle.mq_revoke.proofs.laws.a_plan_meets_the_guard.Goals as goal

pub returns : goal.returns
returns c = λ k t writes read_front read_base order few told low old planned rest. may_draw k t writes read_front read_base order planned few told low old rest
