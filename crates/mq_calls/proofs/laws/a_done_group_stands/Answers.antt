use Rattle.mq_turns.specs.AtDesk.{start_of}
use Rattle.mq_calls.proofs.RunsFinding.{done-now}
use Rattle.mq_calls.proofs.laws.a_done_group_stands.Goals as goal

pub returns : goal.returns
returns g c = λ shape cells v session requests done opening is held answers. done-now g.P.Port.state g.P.Port.faults shape (start_of c.args.desk.now) cells v opening is held session requests done answers
