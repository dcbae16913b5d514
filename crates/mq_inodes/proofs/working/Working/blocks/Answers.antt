use Rattle.std.proofs.Common.{◌∙◌, ap, ◌-◌, ◌++◌, List, ℕ}
use Rattle.std.specs.Prelude.{Vec}
use Rattle.mq_layout.specs.Bits.{pointer_of}
use Rattle.mq_inodes.specs.Pages.{pages_of}
use Rattle.mq_inodes.proofs.LaidNodes.{node-far, node-many, node-near}
use Rattle.mq_inodes.proofs.FitsShowing.{use-shown, use-there}
use Rattle.mq_tree.specs.Decoded.{table_of}
use Rattle.mq_tree.specs.Volume.{Pointers, node}
use Rattle.mq_inodes.proofs.working.Working.blocks.Goals as goal
use Rattle.mq_inodes.proofs.working.Working.blocks.Goals.{then-count-gt-DIRECT+in_ok-page+in_ok-push_pointers, else-count-gt-DIRECT}

pub content-requires : goal.content-requires
content-requires c =
    let p = c.requires.possible in
    use-there c.args.self.now.geometry (pages_of c.args.self.now) p.0 (Pointers c.args.i) c.args.inode.now.indirect p.1 (node-many (node p.0 c.args.i) c.args.inode.now c.count_for-count.result (p.1.sound.nodes c.args.i) (c.requires.inode p.0 p.1) c.count_for-count.ensures.is c.if-count-gt-DIRECT.true)

pub returns-clause-ok : goal.returns-clause-ok
returns-clause-ok c v agrees =
    let n = node v c.args.i in
    let good = agrees.sound.nodes c.args.i in
    let e = c.requires.inode v agrees in
    let count = c.count_for-count.ensures.is in
    elim c.if-count-gt-DIRECT.branch [
      | then-count-gt-DIRECT+in_ok-page+in_ok-push_pointers w ↦
          let many = w.if-count-gt-DIRECT.true in
          let shown = use-shown c.args.self.now.geometry (pages_of c.args.self.now) v (Pointers c.args.i) c.args.inode.now.indirect w.in_ok-page.page.now agrees (node-many n c.args.inode.now _ good e count many) w.in_ok-page.ensures.ok in
          let is = w.in_ok-push_pointers.ensures in
          node-far n c.args.inode.now _ w.in_ok-page.page.now _ good e count many shown.shows (ap (λ (b : Vec ℕ _). b.items) w.blocks-is ∙ is ∙ ap (λ (xs : List ℕ). xs ++ table_of (c.count_for-count.result - 12) (pointer_of w.in_ok-page.page.now)) c.in_ok-blocks.ensures)
      | else-count-gt-DIRECT w ↦
          node-near n c.args.inode.now _ _ good e count w.if-count-gt-DIRECT.false (ap (λ (b : Vec ℕ _). b.items) w.blocks-is ∙ c.in_ok-blocks.ensures)
    ]
