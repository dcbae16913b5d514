-- Which transactions are found to stand, as the blocks say on what each depends.
use Rattle.std.specs.Prelude.{◌≡◌, ◌<◌, ℕ, ◌%◌, List, [], ◌∷◌, length, reverse, nat_eq, if◌then◌else◌}
use Rattle.mq_blocks.specs.Blocks.{block_at}
use Rattle.mq_blocks.specs.Descriptor.{Descriptor, IsGood}
use Rattle.mq_blocks.specs.Geometry.{area_of, homes_of}
use Rattle.mq_blocks.specs.Journal.{Has}
use Rattle.mq_blocks.specs.declared.geometry.Geometry.{Geometry}
use Rattle.mq_ledger.specs.State.{port_at}
use Rattle.mq_loose_order.specs.Form.{IsLoose, loose_bytes, loose_limit}
use Rattle.mq_loose_order.specs.Standing.{numbers_of, standing}
use Rattle.mq_recover.specs.Copies.{AreCopies, with_all}
use Rattle.mq_recover.specs.Drives.{DriveState}
use Rattle.mq_recover.specs.Merges.{AreMerged}
use Rattle.mq_recover.specs.Recover.{chain_at}
use Rattle.mq_loose_recover.specs.Images.{IsLooselyRead, loose_view}
use Rattle.mq_loose_recover.specs.Reading.{deps_of_block}
use Rattle.mq_loose_recover.specs.declared.choice.LooseChosen.{LooseChosen}
use Rattle.mq_loose_recover.specs.declared.standing.LooseFound.{LooseFound}

-- the block of a drive where the descriptor stands
abbrev pub block_of : Geometry → DriveState → Descriptor → List ℕ
block_of g d x = block_at (port_at d.queues x.queue).blocks (x.place % area_of g)

-- the numbers on which the transactions of these descriptors depend, by their blocks
abbrev pub deps_shown : Geometry → DriveState → List Descriptor → ℕ → List ℕ
deps_shown g d [] n = []
deps_shown g d (x ∷ xs) n =
    if nat_eq n x.number then deps_of_block (block_of g d x) else deps_shown g d xs n

-- the descriptor stands there, and is one of the loose order
pub record IsListed (g : Geometry) (d : DriveState) (x : Descriptor) : Type 0 where
  pub deps : List ℕ
  pub bytes : block_of g d x ≡ loose_bytes x deps
  pub good : IsGood loose_limit (homes_of g) x
  pub loose : IsLoose x deps

abbrev pub AreListedIn : Geometry → DriveState → List (List Descriptor) → Type 0
AreListedIn g d chains =
    (q : ℕ) (x : Descriptor) → q < length chains → Has (chain_at chains q) x → IsListed g d x

-- these are the numbers of the transactions of these chains that stand, and this is where their copies stand
pub record IsLooselyChosen (g : Geometry) (d : DriveState) (base : ℕ) (chains : List (List Descriptor))
    (c : LooseChosen) : Type 0 where
  pub merged : List Descriptor
  pub are_merged : AreMerged (homes_of g) base chains merged
  pub copies_are : c.copies.items ≡ with_all (homes_of g) (standing (deps_shown g d merged) base merged)
  pub set_is : c.set.items ≡ reverse (numbers_of (standing (deps_shown g d merged) base merged))

-- the image is readable, these are the numbers above its base of its set, and this is where their copies stand
pub record IsLooselyFound (g : Geometry) (d : DriveState) (found : LooseFound) : Type 0 where
  pub deps : ℕ → List ℕ
  pub ds : List Descriptor
  pub read : IsLooselyRead deps g (loose_view deps g d) ds found.top
  pub copies_are : AreCopies g ds found.copies.items
  pub set_is : found.set.items ≡ reverse (numbers_of ds)
