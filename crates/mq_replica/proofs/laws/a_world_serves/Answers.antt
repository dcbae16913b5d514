use Rattle.mq_replica.proofs.Worlds.{serves}
use Rattle.mq_replica.proofs.laws.a_world_serves.Goals as goal

pub returns : goal.returns
returns c = λ g base first w events begins happen. serves g base first w events begins happen
