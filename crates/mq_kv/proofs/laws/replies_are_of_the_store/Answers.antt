use Rattle.mq_kv.proofs.Recovered.{commits, draws, exact, reads}
use Rattle.mq_kv.proofs.laws.replies_are_of_the_store.Goals as goal

pub returns : goal.returns
returns v c = record {
  draws = λ g ports s o views r opened run. draws v.P.Port v.P.Port.state v.P.Port.faults g ports s o views r opened run;
  commits = λ g ports s o views r opened run. commits v.P.Port v.P.Port.state v.P.Port.faults g ports s o views r opened run;
  exact = λ g ports s o views r opened run. exact v.P.Port v.P.Port.state v.P.Port.faults g ports s o views r opened run;
  reads = λ g ports s o views r opened run. reads v.P.Port v.P.Port.state v.P.Port.faults g ports s o views r opened run;
}
