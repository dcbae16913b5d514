use Rattle.std.proofs.Common.{arith, ap, ◌∙◌, ◌≡◌, ◌*◌, ℕ}
use Rattle.std.proofs.lemmas.List.{get_or_read}
use Rattle.mq_tree.specs.declared.walk.Walk.{Walk}
use Rattle.mq_tree.proofs.DecodedMounting.{inode-form, inode-low, inode-seen}
use Rattle.mq_tree.proofs.DecodedNaming.{dir-seen}
use Rattle.mq_tree.proofs.Walks.{visit-end, visit-found, visit-inside, visit-low, visit-none, visit-skip}
use Rattle.mq_tree.proofs.walk.visit.Goals as goal
use Rattle.mq_tree.proofs.walk.visit.Goals.{in-Some+in_ok-find, in_default}

pub bounds-inodes-d : goal.bounds-inodes-d
bounds-inodes-d c = visit-low c.args.geometry c.args.blocks.now c.args.inodes.now _ _ _ c.args.done 0 c.index.result.now c.requires.walk c.requires.low (get_or_read c.args.walk.now.order.items c.args.done _ c.requires.low c.index.ensures 0) c.requires.inodes

pub returns-then-inode-ne-DIRECTORY-clause-ok : goal.returns-then-inode-ne-DIRECTORY-clause-ok
returns-then-inode-ne-DIRECTORY-clause-ok c =
    let is = get_or_read c.args.walk.now.order.items c.args.done _ c.requires.low c.index.ensures 0 in
    let low = visit-low c.args.geometry c.args.blocks.now c.args.inodes.now _ _ _ c.args.done 0 c.index.result.now c.requires.walk c.requires.low is c.requires.inodes in
    visit-none c.args.geometry c.args.blocks.now _ _ c.args.done c.index.result.now _ c.requires.table c.requires.walk is (inode-seen _ _ c.args.inodes.now c.index.result.now _ c.requires.inodes low) c.if-inode-ne-DIRECTORY.true

pub block_count-k-end-requires : goal.block_count-k-end-requires
block_count-k-end-requires c =
    let low = visit-low c.args.geometry c.args.blocks.now c.args.inodes.now _ _ _ c.args.done 0 c.index.result.now c.requires.walk c.requires.low (get_or_read c.args.walk.now.order.items c.args.done _ c.requires.low c.index.ensures 0) c.requires.inodes in
    inode-form c.args.geometry c.args.blocks.now c.args.inodes.now c.index.result.now _ c.requires.inodes low c.requires.table

pub loop-k-init : goal.loop-k-init
loop-k-init c = (c.requires.walk, c.requires.low, get_or_read c.args.walk.now.order.items c.args.done _ c.requires.low c.index.ensures 0)

pub slot_at-requires-clause-form : goal.slot_at-requires-clause-form
slot_at-requires-clause-form c =
    let i = c.loop-k.invariant in
    let low = visit-low c.args.geometry c.args.blocks.now c.args.inodes.now _ _ _ c.args.done c.loop-k.k c.index.result.now i.0 i.1 i.2 c.requires.inodes in
    inode-form c.args.geometry c.args.blocks.now c.args.inodes.now c.index.result.now _ c.requires.inodes low c.requires.table

pub slot_at-requires-clause-dir : goal.slot_at-requires-clause-dir
slot_at-requires-clause-dir c =
    let i = c.loop-k.invariant in
    let low = visit-low c.args.geometry c.args.blocks.now c.args.inodes.now _ _ _ c.args.done c.loop-k.k c.index.result.now i.0 i.1 i.2 c.requires.inodes in
    dir-seen c.args.geometry c.args.blocks.now c.args.inodes.now c.index.result.now _ c.requires.inodes low c.requires.dirs

pub find-requires : goal.find-requires
find-requires c =
    let i = c.loop-k.invariant in
    let low = visit-low c.args.geometry c.args.blocks.now c.args.inodes.now _ _ _ c.args.done c.loop-k.k c.index.result.now i.0 i.1 i.2 c.requires.inodes in
    visit-inside c.args.geometry c.args.blocks.now c.loop-k.walk.seen.items c.loop-k.walk.order.items c.args.done c.loop-k.k c.index.result.now _ _ c.requires.named c.loop-k.invariant (inode-low c.args.geometry c.args.blocks.now c.args.inodes.now c.index.result.now c.requires.inodes low)
    (inode-seen _ _ c.args.inodes.now c.index.result.now _ c.requires.inodes low) c.if-inode-ne-DIRECTORY.false (let t = c.loop-k-test.true in let e = c.block_count-k-end.ensures.is in omega arith) c.in-Some.ensures

pub loop-k-preserved : goal.loop-k-preserved
loop-k-preserved c =
    let i = c.loop-k.invariant in
    let low = visit-low c.args.geometry c.args.blocks.now c.args.inodes.now _ _ _ c.args.done c.loop-k.k c.index.result.now i.0 i.1 i.2 c.requires.inodes in
    let known = inode-low c.args.geometry c.args.blocks.now c.args.inodes.now c.index.result.now c.requires.inodes low in
    let seen = inode-seen _ _ c.args.inodes.now c.index.result.now _ c.requires.inodes low in
    elim c.match-slot_at.branch [
      | in-Some+in_ok-find w ↦
          visit-found c.args.geometry c.args.blocks.now c.loop-k.walk.seen.items w.find.new.self.seen.items _ c.loop-k.walk.order.items w.find.new.self.order.items _ c.args.done c.loop-k.k c.index.result.now _ _ c.requires.names c.requires.named c.loop-k.invariant known seen
          c.if-inode-ne-DIRECTORY.false (let t = c.loop-k-test.true in let e = c.block_count-k-end.ensures.is in omega arith) w.in-Some.ensures w.in_ok-find.ensures (ap (λ (x : Walk). x.seen.items) w.walk-is) (ap (λ (x : Walk). x.order.items) w.walk-is)
      | in_default w ↦
          visit-skip c.args.geometry c.args.blocks.now c.loop-k.walk.seen.items _ c.loop-k.walk.order.items _ c.args.done c.loop-k.k c.index.result.now _ c.loop-k.invariant known seen c.if-inode-ne-DIRECTORY.false (let t = c.loop-k-test.true in let e = c.block_count-k-end.ensures.is in omega arith)
          w.in_default.ensures (ap (λ (x : Walk). x.seen.items) w.walk-is) (ap (λ (x : Walk). x.order.items) w.walk-is)
    ]

pub returns-clause-ok : goal.returns-clause-ok
returns-clause-ok c =
    let i = c.loop-k.invariant in
    let low = visit-low c.args.geometry c.args.blocks.now c.args.inodes.now _ _ _ c.args.done c.loop-k.k c.index.result.now i.0 i.1 i.2 c.requires.inodes in
    let all : c.loop-k.k ≡ 15 * c.block_count-k-end.result = let t = c.loop-k-test.false in let u = c.loop-k.auto.k-end in omega arith in
    visit-end c.args.geometry c.args.blocks.now c.loop-k.walk.seen.items c.loop-k.walk.order.items c.args.done c.loop-k.k c.index.result.now _ c.requires.table i.0 i.2 (inode-seen _ _ c.args.inodes.now c.index.result.now _ c.requires.inodes low)
    (all ∙ ap (λ (m : ℕ). 15 * m) c.block_count-k-end.ensures.is)
