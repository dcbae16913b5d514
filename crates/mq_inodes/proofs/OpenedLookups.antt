-- An inode that a request changes, as it is looked up.
use Rattle.std.proofs.Common.{◌≡◌, ◌<◌, ℕ, List, length, true, sym, ap, ◌∙◌, arith}
use Rattle.std.specs.Prelude.{Some}
use Rattle.std.proofs.lemmas.Bool.{lt-ltb}
use Rattle.mq_blocks.specs.declared.geometry.Geometry.{Geometry}
use Rattle.mq_inodes.specs.Opened.{IsOpened}
use Rattle.mq_inodes.specs.Walks.{IsDirectory}
use Rattle.mq_inodes.specs.declared.opened.Opened.{Opened}
use Rattle.mq_inodes.proofs.Sound.{used-low}
use Rattle.mq_layout.specs.declared.inode.Inode.{Inode}
use Rattle.mq_tree.specs.Laid.{inode_of, or_zero}
use Rattle.mq_tree.specs.Sound.{IsSound}
use Rattle.mq_tree.specs.Volume.{Body, Volume, body, is_used, node}
use Rattle.mq_tree.proofs.LaidUnique.{some-when}

opened-used : (g : Geometry) (v : Volume) (o : Opened) → IsSound g v → is_used (body v o.number) ≡ true → o.inode ≡ inode_of (node v o.number) → o.blocks.items ≡ (node v o.number).blocks → IsOpened g v o
opened-used g v o sound used says blocks = record { low = used-low g v o.number sound used; inode = says; blocks = blocks; indirect = (sound.nodes o.number).indirect }

pub opened-dir : (g : Geometry) (v : Volume) (o : Opened) → IsSound g v → IsDirectory v o.number → o.inode ≡ inode_of (node v o.number) → o.blocks.items ≡ (node v o.number).blocks → IsOpened g v o
opened-dir g v o sound dir says blocks = opened-used g v o sound (ap (λ (x : Body). is_used x) dir.1) says blocks

pub opened-pointers : (g : Geometry) (v : Volume) (o : Opened) → IsOpened g v o → 12 < length o.blocks.items → (node v o.number).indirect ≡ Some o.inode.indirect
opened-pointers g v o h many =
    let n = node v o.number in
    let s = some-when n.indirect (h.indirect ∙ lt-ltb 12 (length n.blocks) (let e = ap (λ (xs : List ℕ). length xs) h.blocks in omega arith)) in
    s.1 ∙ ap (λ (b : ℕ). Some b) (sym (ap (λ (x : Inode). x.indirect) h.inode ∙ ap or_zero s.1))
