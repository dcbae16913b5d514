use Rattle.std.proofs.Common.{ap, arith, refl, ◌∙◌, ◌≡◌}
use Rattle.mq_tree.specs.declared.claims.BlockUses.{BlockUses}
use Rattle.mq_tree.proofs.DecodedClaiming.{claims-few, claims-home, claims-home_pointers, claims-part, claims-pointers, claims-taken, claims-twice}
use Rattle.mq_tree.proofs.DecodedMounting.{inode-form, inode-low, inode-seen, inodes-past}
use Rattle.mq_tree.proofs.claims.claim_blocks.Goals as goal
use Rattle.mq_tree.proofs.claims.claim_blocks.Goals.{else-count-gt-DIRECT, then-count-gt-DIRECT}

pub block_count-count-requires : goal.block_count-count-requires
block_count-count-requires c = inode-form c.args.geometry c.args.blocks.now c.args.inodes.now c.loop-i.i _ c.requires.inodes c.loop-i-test.true c.requires.table

pub pointer_at-requires-clause-form : goal.pointer_at-requires-clause-form
pointer_at-requires-clause-form c = inode-form c.args.geometry c.args.blocks.now c.args.inodes.now c.loop-i.i _ c.requires.inodes c.loop-i-test.true c.requires.table

pub claim-requires : goal.claim-requires
claim-requires c =
    let h = claims-home c.args.geometry c.args.blocks.now c.loop-i.i c.loop-place.place c.pointer_at.result _ c.requires.pointers (inode-seen _ _ c.args.inodes.now c.loop-i.i _ c.requires.inodes c.loop-i-test.true) (inode-low c.args.geometry c.args.blocks.now c.args.inodes.now c.loop-i.i c.requires.inodes c.loop-i-test.true) (let t = c.loop-place-test.true in let e = c.block_count-count.ensures.is in omega arith) c.pointer_at.ensures in
    let n = c.loop-place.invariant.size in
    omega arith

pub loop-place-preserved : goal.loop-place-preserved
loop-place-preserved c =
    claims-part c.args.geometry c.args.blocks.now c.loop-place.uses.used.items _ c.loop-place.uses.twice _ c.loop-i.i c.loop-place.place c.pointer_at.result _ c.loop-place.invariant c.requires.pointers (inode-seen _ _ c.args.inodes.now c.loop-i.i _ c.requires.inodes c.loop-i-test.true)
    (inode-low c.args.geometry c.args.blocks.now c.args.inodes.now c.loop-i.i c.requires.inodes c.loop-i-test.true) (let t = c.loop-place-test.true in let e = c.block_count-count.ensures.is in omega arith) c.pointer_at.ensures c.claim.ensures.used c.claim.ensures.twice

pub claim-requires-then-count-gt-DIRECT : goal.claim-requires-then-count-gt-DIRECT
claim-requires-then-count-gt-DIRECT c =
    claims-home_pointers c.args.geometry c.args.blocks.now c.loop-i.i _ _ c.loop-place.invariant.size c.requires.pointers (inode-seen _ _ c.args.inodes.now c.loop-i.i _ c.requires.inodes c.loop-i-test.true) (inode-low c.args.geometry c.args.blocks.now c.args.inodes.now c.loop-i.i c.requires.inodes c.loop-i-test.true) (let t = c.if-count-gt-DIRECT.true in let e = c.block_count-count.ensures.is in omega arith)

pub loop-i-preserved : goal.loop-i-preserved
loop-i-preserved c =
    let all : c.loop-place.place ≡ c.block_count-count.result = let t = c.loop-place-test.false in let u = c.loop-place.auto.place-end in omega arith in
    elim c.if-count-gt-DIRECT.branch [
      | then-count-gt-DIRECT w ↦
          claims-pointers c.args.geometry c.args.blocks.now c.loop-place.uses.used.items _ c.loop-place.uses.twice _ c.loop-i.i c.loop-place.place _ _ c.loop-place.invariant c.requires.pointers (inode-seen _ _ c.args.inodes.now c.loop-i.i _ c.requires.inodes c.loop-i-test.true)
          (inode-low c.args.geometry c.args.blocks.now c.args.inodes.now c.loop-i.i c.requires.inodes c.loop-i-test.true) (all ∙ c.block_count-count.ensures.is) (let u = w.if-count-gt-DIRECT.true in omega arith) refl (ap (λ (x : BlockUses). x.used.items) w.uses-is ∙ w.claim-then-count-gt-DIRECT.ensures.used)
          (ap (λ (x : BlockUses). x.twice) w.uses-is ∙ w.claim-then-count-gt-DIRECT.ensures.twice)
      | else-count-gt-DIRECT w ↦
          claims-few c.args.geometry c.args.blocks.now c.loop-place.uses.used.items _ c.loop-place.uses.twice _ c.loop-i.i c.loop-place.place _ c.loop-place.invariant (inode-seen _ _ c.args.inodes.now c.loop-i.i _ c.requires.inodes c.loop-i-test.true) (all ∙ c.block_count-count.ensures.is)
          (let u = w.if-count-gt-DIRECT.false in omega arith) (ap (λ (x : BlockUses). x.used.items) w.uses-is) (ap (λ (x : BlockUses). x.twice) w.uses-is)
    ]

pub returns-clause-used : goal.returns-clause-used
returns-clause-used c b = claims-taken c.args.geometry c.args.blocks.now c.loop-i.uses.used.items c.loop-i.uses.twice c.loop-i.i c.loop-i.invariant (inodes-past c.args.geometry c.args.blocks.now c.args.inodes.now c.loop-i.i c.requires.inodes c.loop-i-test.false) b

pub returns-clause-twice : goal.returns-clause-twice
returns-clause-twice c = claims-twice c.args.geometry c.args.blocks.now c.loop-i.uses.used.items c.loop-i.uses.twice c.loop-i.i c.requires.pointers c.loop-i.invariant (inodes-past c.args.geometry c.args.blocks.now c.args.inodes.now c.loop-i.i c.requires.inodes c.loop-i-test.false)
