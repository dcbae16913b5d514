-- Pages that stay as they were, since what would be put stands there.
use Rattle.std.proofs.Common.{◌≡◌, ℕ, ◌+◌, ◌*◌, ◌<◌, List, ◌++◌, length, take, drop, refl, sym, ap, ◌∙◌}
use Rattle.std.proofs.lemmas.List.{drop-drop, take-append-drop}
use Rattle.mq_blocks.specs.Windows.{Shows, written}
use Rattle.mq_blocks.specs.declared.geometry.Geometry.{Geometry}
use Rattle.mq_inodes.specs.Changes.{IsInodePut}
use Rattle.mq_inodes.specs.Edits.{Carries}
use Rattle.mq_inodes.specs.Pages.{IsHeld, Pages, content}
use Rattle.mq_inodes.proofs.FitsShowing.{inode-carried}
use Rattle.mq_layout.specs.Inodes.{inode_bytes}
use Rattle.mq_layout.specs.Places.{inode_block, inode_place, inodes_of}
use Rattle.mq_tree.specs.Laid.{inode_of}
use Rattle.mq_tree.specs.Volume.{Volume, node}

written-same : (b : List ℕ) (p : ℕ) (xs : List ℕ) → Shows b p xs → written b p xs ≡ b
unfolding written
written-same b p xs s =
    let behind : drop (p + length xs) b ≡ drop (length xs) (drop p b) = sym (drop-drop (length xs) p b) in
    let rest : xs ++ drop (p + length xs) b ≡ drop p b =
    ap (λ (ys : List ℕ). ys ++ drop (p + length xs) b) (sym s) ∙ ap (λ (ys : List ℕ). take (length xs) (drop p b) ++ ys) behind ∙ take-append-drop (length xs) (drop p b) in
    ap (λ (ys : List ℕ). take p b ++ ys) rest ∙ take-append-drop p b

-- an inode that says what it said
pub inode-stays : (g : Geometry) (carried pages : Pages) (v : Volume) (i : ℕ) → Carries g carried v → i < inodes_of g → IsHeld carried (inode_block g i) → pages (inode_block g i) ≡ carried (inode_block g i) → IsInodePut g pages pages i (inode_of (node v i))
inode-stays g carried pages v i c low held same =
    let page = content (carried (inode_block g i)) in
    let shown = inode-carried g carried v i (inode_block g i) (inode_place i) page c low refl refl held in
    record {
      before = page;
      after = page;
      was = same ∙ held;
      put = record { here = same ∙ held; others = λ x other. refl };
      form = shown.0;
      is = sym (written-same page (128 * inode_place i) (inode_bytes (inode_of (node v i))) shown.1.1);
    }
