-- What a transaction of a replica writes, as pairs.
use Rattle.std.specs.Prelude.{ℕ, List, [], ◌∷◌, ◌++◌}
use Rattle.mq_blocks.specs.Machine.{Writes}
use Rattle.mq_blocks.specs.declared.geometry.Geometry.{Geometry}
use Rattle.mq_replica.specs.Contents.{numbered_block}
use Rattle.mq_replica.specs.Updates.{last_home}
use Rattle.mq_replica.specs.declared.update.Update.{Update}
use Rattle.mq_pages.specs.declared.page.Write.{Write}

abbrev pub written_as : Write → ℕ × List ℕ
written_as w = (w.block, w.content)

-- what an update writes on a replica: its own writes, and its number into the last home block
abbrev pub pairs_of : Geometry → Update → Writes
pairs_of g u = u.writes ++ (last_home g, numbered_block u.number) ∷ []
