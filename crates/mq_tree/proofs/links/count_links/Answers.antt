use Rattle.std.proofs.Common.{arith, rules, ap, sym, length, replicate, ◌∙◌, ◌≡◌, ℕ, List, Vec, Global}
use Rattle.std.proofs.lemmas.List.{with_items_is}
use Rattle.mq_layout.specs.Places.{inodes_of}
use Rattle.mq_tree.proofs.DecodedMounting.{inode-form, inode-low, inode-seen, length-inodes}
use Rattle.mq_tree.proofs.DecodedNaming.{dir-seen}
use Rattle.mq_tree.proofs.LinksCounted.{counted-all, counted-dir, counted-few, counted-inside, counted-skip, counted-start}
use Rattle.mq_tree.proofs.links.count_links.Goals as goal
use Rattle.mq_tree.proofs.links.count_links.Goals.{else-inode-eq-DIRECTORY, then-inode-eq-DIRECTORY}

pub loop-i-init : goal.loop-i-init
loop-i-init c =
    let count : length c.args.inodes.now ≡ inodes_of c.args.geometry = ap length c.requires.inodes ∙ length-inodes c.args.geometry c.args.blocks.now in
    let e : c.in_ok-counts.counts.items ≡ replicate (length c.args.inodes.now) 0 = search rules in
    counted-start c.args.geometry c.args.blocks.now _ _ count e

pub count_slots-requires-clause-form : goal.count_slots-requires-clause-form
count_slots-requires-clause-form c = inode-form c.args.geometry c.args.blocks.now c.args.inodes.now c.loop-i.i _ c.requires.inodes c.loop-i-test.true c.requires.table

pub count_slots-requires-clause-dir : goal.count_slots-requires-clause-dir
count_slots-requires-clause-dir c = dir-seen c.args.geometry c.args.blocks.now c.args.inodes.now c.loop-i.i _ c.requires.inodes c.loop-i-test.true c.requires.dirs

pub count_slots-requires-clause-inside : goal.count_slots-requires-clause-inside
count_slots-requires-clause-inside c k e low there =
    let h = counted-inside c.args.geometry c.args.blocks.now c.loop-i.counts.items c.loop-i.i _ c.requires.named (inode-low c.args.geometry c.args.blocks.now c.args.inodes.now c.loop-i.i c.requires.inodes c.loop-i-test.true)
    (inode-seen _ _ c.args.inodes.now c.loop-i.i _ c.requires.inodes c.loop-i-test.true) c.if-inode-eq-DIRECTORY.true c.loop-i.invariant k e low there in
    let same = ap (λ (xs : List ℕ). length xs) c.deref_mut.ensures.value in
    omega arith

pub count_slots-requires-clause-few : goal.count_slots-requires-clause-few
count_slots-requires-clause-few c =
    counted-few c.args.geometry c.args.blocks.now c.loop-i.counts.items c.deref_mut.result.now c.loop-i.i _ c.requires.table (inode-low c.args.geometry c.args.blocks.now c.args.inodes.now c.loop-i.i c.requires.inodes c.loop-i-test.true)
    (inode-seen _ _ c.args.inodes.now c.loop-i.i _ c.requires.inodes c.loop-i-test.true) (inode-form c.args.geometry c.args.blocks.now c.args.inodes.now c.loop-i.i _ c.requires.inodes c.loop-i-test.true c.requires.table) c.if-inode-eq-DIRECTORY.true c.loop-i.invariant c.deref_mut.ensures.value

pub loop-i-preserved : goal.loop-i-preserved
loop-i-preserved c =
    let low = inode-low c.args.geometry c.args.blocks.now c.args.inodes.now c.loop-i.i c.requires.inodes c.loop-i-test.true in
    let seen = inode-seen _ _ c.args.inodes.now c.loop-i.i _ c.requires.inodes c.loop-i-test.true in
    elim c.if-inode-eq-DIRECTORY.branch [
      | then-inode-eq-DIRECTORY w ↦
          let size : length w.count_slots.new.counts ≡ c.loop-i.counts.len = w.count_slots.ensures.size ∙ ap (λ (xs : List ℕ). length xs) w.deref_mut.ensures.value ∙ sym c.loop-i.counts.ok.0 in
          let items : c.if-inode-eq-DIRECTORY.counts.items ≡ w.count_slots.new.counts = ap (λ (v : Vec ℕ Global). v.items) w.counts-is ∙ with_items_is c.loop-i.counts w.count_slots.new.counts size in
          counted-dir c.args.geometry c.args.blocks.now c.loop-i.counts.items w.deref_mut.result.now w.count_slots.new.counts c.if-inode-eq-DIRECTORY.counts.items c.loop-i.i _ low seen w.if-inode-eq-DIRECTORY.true w.deref_mut.ensures.value w.count_slots.ensures.size w.count_slots.ensures.counted
          items c.loop-i.invariant
      | else-inode-eq-DIRECTORY w ↦ counted-skip c.args.geometry c.args.blocks.now c.loop-i.counts.items _ c.loop-i.i _ c.requires.table low seen w.if-inode-eq-DIRECTORY.false (ap (λ (v : Vec ℕ Global). v.items) w.counts-is) c.loop-i.invariant
    ]

pub returns-clause-size : goal.returns-clause-size
returns-clause-size c = c.loop-i.invariant.size

pub returns-clause-counted : goal.returns-clause-counted
returns-clause-counted c =
    let count : length c.args.inodes.now ≡ inodes_of c.args.geometry = ap length c.requires.inodes ∙ length-inodes c.args.geometry c.args.blocks.now in
    let all : c.loop-i.i ≡ inodes_of c.args.geometry = let t = c.loop-i-test.false in let u = c.loop-i.auto.i-end in omega arith in
    counted-all c.args.geometry c.args.blocks.now c.loop-i.counts.items c.loop-i.i c.loop-i.invariant all
