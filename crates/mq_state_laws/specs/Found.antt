-- What recovery finds on what a power cut leaves of the parts.
use Rattle.std.specs.Prelude.{◌≡◌, ◌<◌, ◌≤◌, ℕ, ◌+◌, true, List, length, map, Some}
use Rattle.mq_blocks.specs.Drive.{image_of}
use Rattle.mq_blocks.specs.Geometry.{homes_of}
use Rattle.mq_blocks.specs.Journal.{is_among}
use Rattle.mq_ledger.specs.History.{map_after, upto}
use Rattle.mq_ledger.specs.KnownJournal.{front}
use Rattle.mq_ledger.specs.State.{AreImages, front_of, start_map}
use Rattle.mq_recover.specs.Drives.{DriveState}
use Rattle.mq_state_laws.specs.Parts.{Parts, known, state}

-- a power cut may leave these ports of them
abbrev pub IsCutOf : Parts → DriveState → Type 0
IsCutOf p d = AreImages (state p) (map image_of d.queues) (image_of d.root)

-- What is found reaches a number from the front to the newest one, by the flushed heads and so by what was
-- known to be done. This number is at or above each acknowledged one, and each block of the map after it
-- has the map's content.
pub record Finds (p : Parts) (reached : ℕ) (found : ℕ → List ℕ) : Type 0 where
  pub least : front_of (state p) ≤ reached
  pub settled : front (known p) ≤ reached
  pub most : reached ≤ p.base + length p.history
  pub acknowledged : (n : ℕ) → is_among n p.acknowledged ≡ true → n ≤ reached
  pub stand : (x : ℕ) (content : List ℕ)
      → x < homes_of p.geometry
      → map_after (start_map p.start) (upto reached p.history) x ≡ Some content
      → found x ≡ content
