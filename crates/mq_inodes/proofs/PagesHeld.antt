-- Pages that are held, and blocks of the metadata region.
use Rattle.std.proofs.Common.{◌≡◌, ◌≢◌, ℕ, ◌<◌, List, refl, sym, ap, subst, ◌∙◌, arith}
use Rattle.std.specs.Prelude.{Option, Some, None}
use Rattle.std.proofs.lemmas.Bool.{true≢false}
use Rattle.std.proofs.lemmas.Option.{none-some}
use Rattle.mq_blocks.specs.Geometry.{meta_of}
use Rattle.mq_blocks.specs.declared.geometry.Geometry.{Geometry}
use Rattle.mq_inodes.specs.Edits.{Carries}
use Rattle.mq_inodes.specs.Fits.{Fits}
use Rattle.mq_inodes.specs.Pages.{IsHeld, Pages, content}
use Rattle.mq_layout.specs.Places.{inode_bitmap, inode_block, inodes_of}
use Rattle.mq_tree.specs.Volume.{Use, Volume, block_in}
use Rattle.mq_tree.proofs.LaidUses.{use-taken}

-- a page that is known, and is not free
pub held-else : (o : Option (Option (List ℕ))) → o ≢ None → o ≢ Some None → o ≡ Some (Some (content o))
held-else None known used = absurd (known refl)
held-else (Some None) known used = absurd (used refl)
held-else (Some (Some page)) known used = refl

pub held-is : (pages : Pages) (b : ℕ) (page : List ℕ) → pages b ≡ Some (Some page) → IsHeld pages b
held-is pages b page e = e ∙ ap (λ (o : Option (Option (List ℕ))). Some (Some (content o))) (sym e)

pub held-same : (old new : Pages) (b : ℕ) → new b ≡ old b → IsHeld old b → IsHeld new b
held-same old new b e h = subst (λ (o : Option (Option (List ℕ))). o ≡ Some (Some (content o))) (sym e) h

pub held-known : (pages : Pages) (b : ℕ) → IsHeld pages b → pages b ≢ None
held-known pages b h e = none-some (Some (content (pages b))) (sym e ∙ h)

-- a block of the metadata region that is known is held
pub meta-held : (g : Geometry) (pages : Pages) (v : Volume) (b : ℕ) → Fits g pages v → b < meta_of g → pages b ≢ None → IsHeld pages b
meta-held g pages v b fits low known = held-else (pages b) known (λ e. let f = (fits.free b e).0 in absurd (omega arith))

-- one that is in use, too
pub used-held : (g : Geometry) (pages : Pages) (v : Volume) (purpose : Use) (b : ℕ) → Carries g pages v → block_in v purpose ≡ Some b → pages b ≢ None → IsHeld pages b
used-held g pages v purpose b c e known = held-else (pages b) known (λ none. true≢false (sym (use-taken v purpose b e) ∙ (c.fits.free b none).1))

-- a block of the table is one of the metadata region
pub table-low : (g : Geometry) (i : ℕ) → i < inodes_of g → inode_block g i < meta_of g
table-low g i low = let m = g.meta_low in omega arith

pub bitmap-low : (g : Geometry) → inode_bitmap g < meta_of g
bitmap-low g = let m = g.meta_low in omega arith
