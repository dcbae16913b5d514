-- A drive of one queue whose two ports have one image each, as recovery sees it.
use Rattle.std.specs.Prelude.{◌≡◌, [], ◌∷◌}
use Rattle.mq_nvme.specs.Says.{journal_reading}
use Rattle.mq_blocks.specs.Drive.{PortState, IsQuiescent, image_of}
use Rattle.mq_blocks.specs.Journal.{Shown, shown}
use Rattle.mq_blocks.specs.declared.geometry.Geometry.{Geometry}
use Rattle.mq_drive.specs.Start.{IsPortOf}
use Rattle.mq_drive.specs.declared.role.Role.TheVariants.{Queue, Root}

-- what the images of the two ports show
abbrev pub view_of : Geometry → PortState → PortState → Shown
view_of g queue root = shown journal_reading g (image_of queue ∷ []) (image_of root)

pub record IsQuiescentPair (g : Geometry) (queue root : PortState) : Type 0 where
  pub one : g.queues ≡ 1
  pub queue_port : IsPortOf g (Queue 0) queue
  pub root_port : IsPortOf g Root root
  pub queue_quiet : IsQuiescent queue
  pub root_quiet : IsQuiescent root
