use Rattle.mq_kv.proofs.Recovered.{recovered, standing}
use Rattle.mq_kv.proofs.laws.recovery_finds_a_store.Goals as goal

pub returns : goal.returns
returns v c = record {
  recovered = λ g ports s o views r d new prefix base opened run cut is.
      recovered v.P.Port v.P.Port.state v.P.Port.faults g ports s o views r opened run c.recovery_finds_a_prefix.ensures.recovered d new prefix base cut is;
  standing = λ g ports s o views r d found opened run cut is.
      standing v.P.Port v.P.Port.state v.P.Port.faults g ports s o views r opened run c.recovery_finds_a_prefix.ensures.standing d found cut is;
}
