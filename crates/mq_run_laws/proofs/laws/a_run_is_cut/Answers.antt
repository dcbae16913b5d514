use Rattle.mq_run_laws.proofs.CutsClean.{is-clean}
use Rattle.mq_run_laws.proofs.Cuts.{is-cut}
use Rattle.mq_run_laws.proofs.AnswersDone.{acknowledged-low}
use Rattle.mq_run_laws.proofs.laws.a_run_is_cut.Goals as goal

pub returns : goal.returns
returns g c = record {
  done = λ d ports s scripts finish e n run short is. acknowledged-low g.P.Port g.P.Port.state g.P.Port.faults d ports s scripts finish e run short n is;
  cut = λ d ports s scripts finish e v queues root run short low laid images. is-cut g.P.Port g.P.Port.state g.P.Port.faults d ports s scripts finish e run v queues root short low laid images;
  clean = λ d ports s scripts finish e n queues root run short is images. is-clean g.P.Port g.P.Port.state g.P.Port.faults d ports s scripts finish e n run is queues root short images;
}
