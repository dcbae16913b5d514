-- What held pages show of each volume of which they may be a part.
use Rattle.std.proofs.Common.{◌≡◌, ◌≢◌, ℕ, ◌+◌, ◌*◌, ◌/◌, ◌%◌, ◌<◌, List, sym, ap, subst, ◌∙◌, arith}
use Rattle.std.specs.Prelude.{Some, None}
use Rattle.std.proofs.lemmas.Bool.{true≢false}
use Rattle.mq_blocks.specs.declared.geometry.Geometry.{Geometry}
use Rattle.mq_layout.specs.Inodes.{ShowsInode}
use Rattle.mq_layout.specs.Places.{inode_block, inode_place, inodes_of}
use Rattle.mq_inodes.specs.Edits.{Carries}
use Rattle.mq_inodes.specs.Fits.{Agrees}
use Rattle.mq_inodes.specs.Pages.{Pages}
use Rattle.mq_inodes.proofs.EditsBecoming.{carries-sound}
use Rattle.mq_tree.specs.Laid.{IsPage, ShowsRegion, ShowsTable, ShowsUse, ShowsZone, inode_of}
use Rattle.mq_tree.specs.Volume.{Use, Volume, block_in, node}
use Rattle.mq_tree.proofs.LaidRegions.{region-table, region-zone, table-holds}
use Rattle.mq_tree.proofs.LaidUses.{use-taken}

-- the block of an inode
pub inode-carried : (g : Geometry) (pages : Pages) (v : Volume) (i b at : ℕ) (page : List ℕ) → Carries g pages v → i < inodes_of g → b ≡ inode_block g i → at ≡ inode_place i → pages b ≡ Some (Some page) → IsPage page × ShowsInode page at (inode_of (node v i))
inode-carried g pages v i b at page c low is there f =
    let e : pages (inode_block g i) ≡ Some (Some page) = ap pages (sym is) ∙ f in
    let shown = c.fits.held (inode_block g i) page e in
    let table : ShowsTable v (i / 32) page = subst (λ r. ShowsRegion g v (inode_block g i) r page) (region-table g (i / 32) (table-holds g i low)) shown.1 in
    let same : 32 * (i / 32) + i % 32 ≡ i = omega arith in
    (shown.0, subst (λ k. ShowsInode page k (inode_of (node v i))) (sym there) (subst (λ j. ShowsInode page (i % 32) (inode_of (node v j))) same (table (i % 32) (omega arith))))

pub inode-shown : (g : Geometry) (pages : Pages) (v : Volume) (i b at : ℕ) (page : List ℕ) → Agrees g pages v → i < inodes_of g → b ≡ inode_block g i → at ≡ inode_place i → pages b ≡ Some (Some page) → ShowsInode page at (inode_of (node v i))
inode-shown g pages v i b at page agrees low is there f = (inode-carried g pages v i b at page (carries-sound g pages v agrees) low is there f).1

-- a block that an inode uses
pub record IsUse (v : Volume) (u : Use) (page : List ℕ) : Type 0 where
  pub form : IsPage page
  pub shows : ShowsUse v u page

pub use-carried : (g : Geometry) (pages : Pages) (v : Volume) (u : Use) (b : ℕ) (page : List ℕ) → Carries g pages v → block_in v u ≡ Some b → pages b ≡ Some (Some page) → IsUse v u page
use-carried g pages v u b page c is e =
    let z = c.uses.zones u b is in
    let shown = c.fits.held b page e in
    let at : ShowsZone v b page = subst (λ r. ShowsRegion g v b r page) (region-zone g b z.0 z.1) shown.1 in
    record { form = shown.0; shows = subst (λ w. ShowsUse v w page) (c.uses.apart at.purpose u b at.is is) at.shows }

pub use-shown : (g : Geometry) (pages : Pages) (v : Volume) (u : Use) (b : ℕ) (page : List ℕ) → Agrees g pages v → block_in v u ≡ Some b → pages b ≡ Some (Some page) → IsUse v u page
use-shown g pages v u b page agrees is e = use-carried g pages v u b page (carries-sound g pages v agrees) is e

-- is not known to be free
pub use-there : (g : Geometry) (pages : Pages) (v : Volume) (u : Use) (b : ℕ) → Agrees g pages v → block_in v u ≡ Some b → pages b ≢ Some None
use-there g pages v u b agrees is e = true≢false (sym (use-taken v u b is) ∙ (agrees.fits.free b e).1)
