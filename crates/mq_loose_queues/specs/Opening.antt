-- Over which ports the queues may be opened, and what they are then.
use Rattle.std.specs.Prelude.{◌≡◌, ◌<◌, ◌≤◌, ◌^◌, ℕ, List, [], map, Option, Some}
use Rattle.mq_blocks.specs.Blocks.{content}
use Rattle.mq_blocks.specs.declared.geometry.Geometry.{Geometry}
use Rattle.mq_ledger.specs.State.{port_at}
use Rattle.mq_ledger.specs.Written.{journal_entries}
use Rattle.mq_loose.specs.Guards.{IsLooseStart}
use Rattle.mq_loose_recover.specs.declared.standing.LooseStanding.{LooseStanding}
use Rattle.mq_recover.specs.Drives.{DriveFaults, DriveState}
use Rattle.mq_recover.specs.Recovery.{started}
use Rattle.mq_loose_queues.specs.Journal.{IsJournal}
use Rattle.mq_loose_queues.specs.Queues.{QueuesState, drive_in, faults_in}

-- What stands on the home blocks, as a map: all of them are in it.
abbrev pub home_map : List (Option (List ℕ)) → List (Option (List ℕ))
home_map blocks = map (λ block. Some (content block)) blocks

-- The ports are a start of the loose machine over the map of what stands, and the base is the root's. Base and
-- doorbells are at most 2^62.
pub record MayOpen (g : Geometry) (d : DriveState) (standing : LooseStanding) : Type 0 where
  pub starts : IsLooseStart journal_entries (started g d (home_map standing.blocks.items))
  pub base_is : standing.base ≡ d.root.base
  pub base : standing.base ≤ 2 ^ 62
  pub rung : (q : ℕ) → q < g.queues → (port_at d.queues q).doorbell ≤ 2 ^ 62

-- the queues over these ports, on which nothing was drawn since, where the start's map is this one
pub record IsOpened (g : Geometry) (d : DriveState) (f : DriveFaults) (start : List (Option (List ℕ)))
    (v : QueuesState) : Type 0 where
  pub drive : drive_in v ≡ d
  pub faults : faults_in v ≡ f
  pub journal : IsJournal (started g d start) [] v
