-- A replica to which lines are fed.
use Rattle.std.specs.Prelude.{◌≡◌, ◌≤◌, ℕ, ◌+◌, false, List, length}
use Rattle.mq_block_text.specs.declared.item.BlockItem.{BlockItem}
use Rattle.mq_blocks.specs.declared.geometry.Geometry.{Geometry}
use Rattle.mq_queue_side.specs.Commits.{descriptor_size}
use Rattle.mq_recover.specs.Drives.{AreBoundsKept}
use Rattle.mq_replica.specs.Contents.{Contents, after_update}
use Rattle.mq_replica.specs.Images.{StandsFor}
use Rattle.mq_replica.specs.Offers.{ReplicaState, doorbell_of}
use Rattle.mq_replica.specs.declared.update.Update.{Update}
use Rattle.mq_command_replicate.specs.Updates.{contents_after, entries_upto}

-- the replica has got the update, by one or two offers
pub record HasUpdate (old : ReplicaState) (u : Update) (new : ReplicaState) : Type 0 where
  pub geometry : new.geometry ≡ old.geometry
  pub bounds : AreBoundsKept old.geometry old.drive new.drive
  pub offers : new.offers ≤ old.offers + 2
  pub reached : new.reached ≡ u.number
  pub stopped : new.stopped ≡ false
  pub stands : (c : Contents) → StandsFor old.geometry old.drive c
      → StandsFor old.geometry new.drive (after_update old.geometry u c)
  pub entries : doorbell_of new
      ≡ doorbell_of old + (length u.writes + 1 + descriptor_size (length u.writes + 1) 0)

-- The replica, which began on these contents, has the first n lines.
pub record HasLines (g : Geometry) (first : Contents) (lines : List (List BlockItem)) (n : ℕ)
    (r : ReplicaState) : Type 0 where
  pub geometry : r.geometry ≡ g
  pub reached : r.reached ≡ n
  pub stopped : r.stopped ≡ false
  pub stands : StandsFor g r.drive (contents_after g first lines n)
  pub entries : doorbell_of r ≡ entries_upto lines n
