-- What a run of the lines of a text of the loose order leaves.
use Rattle.std.specs.Prelude.{◌≡◌, ◌<◌, ℕ, Bool, List, Option, Some, reverse}
use Rattle.mq_block_trace.specs.Lines.{live_from, named}
use Rattle.mq_blocks.specs.Descriptor.{Descriptor}
use Rattle.mq_blocks.specs.Journal.{Shown, shown, stands}
use Rattle.mq_blocks.specs.declared.geometry.Geometry.{Geometry}
use Rattle.mq_image.specs.Drives.{IsDrive}
use Rattle.mq_image.specs.File.{DriveImage, queue_ports, root_port}
use Rattle.mq_loose_order.specs.Standing.{numbers_of}
use Rattle.mq_loose_recover.specs.Images.{IsLooselyRead, loose_reading}
use Rattle.mq_loose_text.specs.Meaning.{IsSetIn, map_in, numbers_in, rung_on, settled_in}
use Rattle.mq_loose_text.specs.Text.{queue_count}
use Rattle.mq_loose_text.specs.declared.line.LooseLine.{LooseLine}
use Rattle.mq_loose_run.specs.declared.run.LooseRun.{LooseRun}

-- the drive on which texts of the loose order are run
pub record IsRunGeometry (g : Geometry) : Type 0 where
  pub queues : g.queues ≡ 4
  pub area : g.area ≡ 1024
  pub meta : g.meta ≡ 16
  pub zone : g.zone ≡ 60

-- what an image shows, where the transactions of these numbers depend on these
abbrev pub view_in : (deps : ℕ → List ℕ) → DriveImage → Shown
view_in deps x = shown (loose_reading deps) x.geometry (queue_ports x) (root_port x)

-- The image is readable, its set is this one, and each block of the map after the set stands. The doorbell of each
-- queue is past the entries that were rung before the cut, and past no others.
pub record IsLeftLoose (cut : Option ℕ) (lines : List LooseLine) (set : ℕ → Bool) (x : DriveImage) : Type 0 where
  pub geometry_is : IsRunGeometry x.geometry
  pub drive : IsDrive x
  pub base : (root_port x).base ≡ 0
  pub deps : ℕ → List ℕ
  pub ds : List Descriptor
  pub top : ℕ
  pub read : IsLooselyRead deps x.geometry (view_in deps x) ds top
  pub set_is : reverse (numbers_of ds) ≡ numbers_in set lines
  pub stand : (b : ℕ) (content : List ℕ) → map_in set lines b ≡ Some content
      → stands x.geometry (view_in deps x) ds b ≡ content
  pub rung : (q : ℕ) → q < queue_count → (view_in deps x).doorbell q ≡ rung_on cut q lines

-- The lines were run until the end, or until the power went off after so many events.
pub record IsLooseRun (cut : Option ℕ) (lines : List LooseLine) (r : LooseRun) : Type 0 where
  pub set : ℕ → Bool
  pub set_in : IsSetIn cut lines set
  pub acknowledged : r.acknowledged.items ≡ numbers_in (settled_in cut lines) lines
  pub set_is : r.set.items ≡ numbers_in set lines
  pub live : r.live.items ≡ live_from (map_in set lines) 0 named
  pub left : IsLeftLoose cut lines set r.image
