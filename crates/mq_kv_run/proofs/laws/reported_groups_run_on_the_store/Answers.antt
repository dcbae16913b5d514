use Rattle.mq_kv_run.proofs.Stores.{commits-run, groups-leave}
use Rattle.mq_kv_run.proofs.laws.reported_groups_run_on_the_store.Goals as goal

pub returns : goal.returns
returns c = record { groups = groups-leave; commit = commits-run }
