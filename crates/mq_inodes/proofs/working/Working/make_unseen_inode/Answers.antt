use Rattle.std.proofs.Common.{◌≡◌, ◌≢◌, ap, arith, sym, ◌∙◌}
use Rattle.std.specs.Prelude.{None}
use Rattle.std.proofs.lemmas.Result.{on_ok_weaker}
use Rattle.mq_inodes.specs.Pages.{known, pages_of}
use Rattle.mq_inodes.proofs.PagesHeld.{held-known, meta-held, table-low}
use Rattle.mq_inodes.proofs.BareUnseenInodes.{inode-unseen, looked-up}
use Rattle.mq_layout.specs.Places.{inode_bitmap, inode_block}
use Rattle.mq_inodes.proofs.working.Working.make_unseen_inode.Goals as goal

pub make_inode-requires-clause-inode : goal.make_inode-requires-clause-inode
make_inode-requires-clause-inode c =
    let g = c.args.self.now.geometry in
    let p = c.requires.possible in
    meta-held g (pages_of c.args.self.now) p.0 (inode_block g c.args.i) p.1.fits (table-low g c.args.i c.requires.low)
    (λ none. looked-up c.page.result c.in_default.not-Absent (c.page.ensures ∙ ap (pages_of c.args.self.now) c.inode_block.ensures.is ∙ none))

pub returns-in-Absent-clause-carried : goal.returns-in-Absent-clause-carried
returns-in-Absent-clause-carried c =
    let g = c.args.self.now.geometry in
    let b = inode_block g c.args.i in
    let none : pages_of c.args.self.now b ≡ None = ap (pages_of c.args.self.now) (sym c.inode_block.ensures.is) ∙ sym c.page.ensures ∙ ap known c.in-Absent.is in
    let other : b ≢ inode_bitmap g = λ e. absurd (omega arith) in
    on_ok_weaker c.mark_inode.result (λ marked v carries good is.
    inode-unseen g v c.args.i c.args.is_directory c.args.self.now c.mark_inode.new.self carries c.requires.low good is marked (marked.put.others b other ∙ none)) c.mark_inode.ensures.marked

pub returns-in-Absent-clause-made : goal.returns-in-Absent-clause-made
returns-in-Absent-clause-made c =
    let g = c.args.self.now.geometry in
    let b = inode_block g c.args.i in
    let none : pages_of c.args.self.now b ≡ None = ap (pages_of c.args.self.now) (sym c.inode_block.ensures.is) ∙ sym c.page.ensures ∙ ap known c.in-Absent.is in
    on_ok_weaker c.mark_inode.result (λ marked held. absurd (held-known (pages_of c.args.self.now) b held none)) c.mark_inode.ensures.marked

pub returns-clause-carried : goal.returns-clause-carried
returns-clause-carried c = on_ok_weaker c.make_inode.result (λ made v carries good is. (made v carries good is).carries) c.make_inode.ensures.made
