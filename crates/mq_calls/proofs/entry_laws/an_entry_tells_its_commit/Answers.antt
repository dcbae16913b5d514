use Rattle.mq_calls.proofs.Entries.{tells_commit, tells_plan}
use Rattle.mq_calls.proofs.entry_laws.an_entry_tells_its_commit.Goals as goal

pub returns : goal.returns
returns c = record { commit = tells_commit; plan = tells_plan }
