use Rattle.std.proofs.Common.{arith, ap, ◌∙◌, ◌≡◌, ℕ, inl, inr, sym, subst}
use Rattle.std.proofs.lemmas.Bool.{cases_lt}
use Rattle.mq_blocks.specs.Blocks.{block_at}
use Rattle.mq_layout.specs.Inodes.{ShowsInode}
use Rattle.mq_layout.specs.Places.{inode_block, inode_place}
use Rattle.mq_tree.specs.Decoded.{table_of, the_inode}
use Rattle.mq_tree.specs.Tables.{IsTableBefore}
use Rattle.mq_tree.proofs.DecodedMounting.{table_inode-bad, inode-read, table-more}
use Rattle.mq_tree.proofs.TablesFirst.{before-inodes, layout-first}
use Rattle.mq_tree.proofs.table.read_inodes.Goals as goal

pub returns-in-Err-clause-cause : goal.returns-in-Err-clause-cause
returns-in-Err-clause-cause c =
    let at = c.b.view_is ∙ c.inode_block.ensures.is in
    let low = c.loop-i-test.true in
    let before = before-inodes c.args.geometry c.args.blocks.now c.args.start c.loop-i.i c.requires.whole (omega arith) c.loop-i.auto.i c.requires.before c.loop-i.invariant.shown in
    layout-first c.args.geometry c.args.blocks.now c.b.inside.0 _ (subst (IsTableBefore c.args.geometry c.args.blocks.now) (sym at) before) (λ l. c.requires.root (omega arith))
    (table_inode-bad _ _ c.loop-i.i c.b.inside.0 c.inode_place.result c.stored_block.result.now c.in-Err.field-0 (omega arith) at c.inode_place.ensures.is c.stored_block.ensures c.in-Err.ensures.refused) c.corrupt.ensures

pub loop-i-preserved : goal.loop-i-preserved
loop-i-preserved c =
    let r = inode-read c.args.geometry c.args.blocks.now c.loop-i.i c.b.inside.0 c.inode_place.result c.stored_block.result.now c.in-Ok.inode (c.b.view_is ∙ c.inode_block.ensures.is) c.inode_place.ensures.is c.stored_block.ensures c.in-Ok.ensures.sound in
    record {
      found = table-more (the_inode c.args.geometry c.args.blocks.now) c.loop-i.i _ _ c.in-Ok.inode c.loop-i.invariant.found c.in_ok-push-in-Ok.ensures.items r.0;
      shown = λ k high low. elim (cases_lt k c.loop-i.i) [
        | inl l ↦ c.loop-i.invariant.shown k high l
        | inr past ↦
            let same : c.loop-i.i ≡ k = omega arith in
            subst (λ j. ShowsInode (block_at c.args.blocks.now (inode_block c.args.geometry j)) (inode_place j) (the_inode c.args.geometry c.args.blocks.now j)) same r.1
      ];
    }

pub returns-clause-found : goal.returns-clause-found
returns-clause-found c =
    let same : c.loop-i.i ≡ c.args.end = let t = c.loop-i-test.false in let u = c.loop-i.auto.i-end c.requires.some in omega arith in
    c.loop-i.invariant.found ∙ ap (λ (n : ℕ). table_of n (the_inode c.args.geometry c.args.blocks.now)) same

pub returns-clause-before : goal.returns-clause-before
returns-clause-before c =
    before-inodes c.args.geometry c.args.blocks.now c.args.start c.args.end c.requires.whole c.requires.end c.requires.some c.requires.before (λ k high low. c.loop-i.invariant.shown k high (let t = c.loop-i-test.false in omega arith))
