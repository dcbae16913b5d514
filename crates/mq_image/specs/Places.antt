-- How far the blocks of a file are read, and what reading more of them gives.
use Rattle.std.specs.Prelude.{◌≡◌, ◌<◌, ◌≤◌, ◌^◌, ℕ, ◌+◌, ◌*◌, List, ◌++◌, length, map, Option}
use Rattle.std.specs.List.{All}
use Rattle.mq_blocks.specs.Windows.{window}
use Rattle.mq_image.specs.Faults.{record_fault}
use Rattle.mq_image.specs.File.{IsBlockSized, kept, one_of, record_bytes, record_count, records}
use Rattle.mq_image.specs.declared.fault.FileFault.{FileFault}
use Rattle.mq_image.specs.declared.place.Place.{Place}

-- the first fault of the records that are still to come
abbrev pub fault_left : Place → List ℕ → Option FileFault
fault_left p file = record_fault p.size p.left p.index p.lba p.at file

-- their bytes
abbrev pub rest_of : Place → List ℕ → List ℕ
rest_of p file = window file p.at (4100 * p.left)

-- the file has them, and their numbers have room
pub record IsInside (p : Place) (file : List ℕ) : Type 0 where
  pub room : p.at + 4100 * p.left ≤ length file
  pub index : p.index + p.left < 2 ^ 32
  pub size : p.size < 2 ^ 32

-- the next block was read
pub record IsNext (file : List ℕ) (old new : Place) (block : Option (List ℕ)) : Type 0 where
  pub size : new.size ≡ old.size
  pub lba : new.lba ≡ old.lba + 1
  pub inside : IsInside new file
  pub fault : fault_left new file ≡ fault_left old file
  pub rest : rest_of old file ≡ record_bytes old.lba block ++ rest_of new file
  pub end : new.at + 4100 * new.left ≡ old.at + 4100 * old.left
  pub count : old.left ≡ one_of block + new.left
  pub kept_is : kept block ≡ block
  pub bytes : IsBlockSized block

-- the next blocks were read
pub record IsSpan (file : List ℕ) (old new : Place) (blocks : List (Option (List ℕ))) : Type 0 where
  pub size : new.size ≡ old.size
  pub lba : new.lba ≡ old.lba + length blocks
  pub inside : IsInside new file
  pub fault : fault_left new file ≡ fault_left old file
  pub rest : rest_of old file ≡ records old.lba blocks ++ rest_of new file
  pub end : new.at + 4100 * new.left ≡ old.at + 4100 * old.left
  pub count : old.left ≡ record_count blocks + new.left
  pub kept_is : map kept blocks ≡ blocks
  pub bytes : All IsBlockSized blocks
