-- What recovery leaves of every power cut: along the machine, and of the image of a run.
use Rattle.std.specs.Prelude.{◌≡◌, ◌<◌, ◌≤◌, ℕ, ◌+◌, true, List, [], ◌∷◌, length, map, Option, None, Some}
use Rattle.mq_blocks.specs.Drive.{image_of}
use Rattle.mq_blocks.specs.Geometry.{homes_of}
use Rattle.mq_blocks.specs.Journal.{is_among}
use Rattle.mq_blocks.specs.Machine.{Map}
use Rattle.mq_blocks.specs.declared.geometry.Geometry.{Geometry}
use Rattle.mq_core.specs.Machine.{AreAllowed, happens}
use Rattle.mq_core.specs.declared.event.Event.{Event}
use Rattle.mq_image.specs.File.{DriveImage}
use Rattle.mq_image_ops.specs.Recovering.{IsRecoveryOf}
use Rattle.mq_image_ops.specs.Views.{view_of}
use Rattle.mq_image_ops.specs.declared.recovery.RecoveredImage.{RecoveredImage}
use Rattle.mq_ledger.specs.History.{map_after, upto}
use Rattle.mq_ledger.specs.State.{IsStart, State, front_of, start_map}
use Rattle.mq_ledger.specs.State as machine
use Rattle.mq_ledger.specs.Written.{journal_entries}
use Rattle.mq_recover.specs.Drives.{AreImages, DriveState, view_over}
use Rattle.mq_recover.specs.Recovery.{IsStartDrive}
use Rattle.mq_recover.specs.Images.{IsReadableImage}
use Rattle.mq_recover.specs.Steps.{IsCutShort, HasRecovered}
use Rattle.mq_recover.specs.declared.refusal.RecoverRefusal.{RecoverRefusal}
use Rattle.mq_tree.specs.Laid.{IsLaid}
use Rattle.mq_tree.specs.Volume.{Volume}

-- ---- along the machine

-- Recovery of a drive leads to this one: it is done at once; or the drive cuts it short, the power goes
-- off, and recovery of an image that this leaves leads there.
pub data RecoversTo (g : Geometry) (new : DriveState) : DriveState → Type 0 where
  at_once : {old : DriveState} (prefix base : ℕ) → HasRecovered g old prefix base new → RecoversTo g new old
  again : {old : DriveState} (e : RecoverRefusal) (mid start : DriveState) → IsCutShort g e old mid
      → AreImages g mid (map image_of start.queues) (image_of start.root) → RecoversTo g new start
      → RecoversTo g new old

-- The home blocks hold the blocks after the transactions up to this number, each whole, with every
-- acknowledged one among them, and nothing older in their place; and the journal may begin again on the
-- drive.
pub record HoldsUpto (s : State) (reached : ℕ) (new : DriveState) : Type 0 where
  pub homes : (x : ℕ) (content : List ℕ)
      → x < homes_of s.geometry
      → map_after (start_map s.start) (upto reached s.history) x ≡ Some content
      → (view_over s.geometry new).home x ≡ content
  pub start : IsStartDrive s.geometry new

-- A power cut may leave these ports. They are readable, and reach a number of the history at or above each
-- acknowledged one; and whatever recovery of them leads to holds the blocks after the transactions up to
-- this number.
pub record IsRecovered (s : State) (d : DriveState) : Type 0 where
  pub readable : IsReadableImage s.geometry d
  pub reached : ℕ
  pub least : front_of s ≤ reached
  pub most : reached ≤ s.base + length s.history
  pub acknowledged : (n : ℕ) → is_among n s.acknowledged ≡ true → n ≤ reached
  pub holds : (new : DriveState) → RecoversTo s.geometry new d → HoldsUpto s reached new

-- so is every image that a power cut may leave of a state
abbrev pub EveryCutIsRecovered : State → Type 0
EveryCutIsRecovered s =
    (d : DriveState) → machine.AreImages s (map image_of d.queues) (image_of d.root) → IsRecovered s d

-- before, between and after the events
abbrev pub IsRecoveredThroughout : List Event → State → Type 0
IsRecoveredThroughout [] s = EveryCutIsRecovered s
IsRecoveredThroughout (v ∷ vs) s =
    EveryCutIsRecovered s × IsRecoveredThroughout vs (happens journal_entries v s)

-- For every interleaving of queue events and every power cut between two of them, recovery leaves on the
-- home blocks the blocks after the first transactions in number order, each whole, with every acknowledged
-- one among them, and no superseded block in their place.
abbrev pub EveryInterleavingIsRecovered : Type 0
EveryInterleavingIsRecovered =
    (s : State) (events : List Event)
    → IsStart journal_entries s
    → AreAllowed journal_entries events s
    → IsRecoveredThroughout events s

-- ---- of an image

-- Recovery of an image leads to this one, cut and begun again any number of times, and at last whole.
pub data LeadsTo (y : DriveImage) : DriveImage → Type 0 where
  whole : {x : DriveImage} (limit : Option ℕ) (r : RecoveredImage) → IsRecoveryOf x limit r
      → r.cut ≡ None → r.image ≡ y → LeadsTo y x
  cut : {x : DriveImage} (limit : Option ℕ) (r : RecoveredImage) → IsRecoveryOf x limit r
      → LeadsTo y r.image → LeadsTo y x

-- the home blocks hold each block of the volume's map
pub record HoldsVolume (g : Geometry) (y : DriveImage) (v : Volume) : Type 0 where
  pub map_is : Map
  pub laid : IsLaid g map_is v
  pub homes : (b : ℕ) (page : List ℕ) → b < homes_of g → map_is b ≡ Some page → (view_of y).home b ≡ page
