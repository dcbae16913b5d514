use Rattle.std.proofs.Common.{arith, rules, ap, length, subst, ◌∙◌, ◌≡◌, ◌<◌}
use Rattle.mq_layout.specs.Places.{inodes_of}
use Rattle.mq_tree.specs.Decoded.{volume_in}
use Rattle.mq_tree.specs.Walks.{Starts}
use Rattle.mq_tree.proofs.DecodedMounting.{inodes-some, length-inodes}
use Rattle.mq_tree.proofs.Walks.{walked-few, walked-start, walked-whole}
use Rattle.mq_tree.proofs.walk.walk_all.Goals as goal

pub new-requires : goal.new-requires
new-requires c = let e = ap length c.requires.inodes in let l = length-inodes c.args.geometry c.args.blocks.now in let s = inodes-some c.args.geometry in omega arith

pub loop-done-init : goal.loop-done-init
loop-done-init c =
    let count : length c.args.inodes.now ≡ inodes_of c.args.geometry = ap length c.requires.inodes ∙ length-inodes c.args.geometry c.args.blocks.now in
    walked-start (volume_in c.args.geometry c.args.blocks.now) (inodes_of c.args.geometry) _ _ (inodes-some c.args.geometry) (subst (λ n. Starts n c.in_ok-walk.walk.seen.items c.in_ok-walk.walk.order.items) count c.in_ok-walk.ensures)

pub loop-done-smaller : goal.loop-done-smaller
loop-done-smaller c =
    let few = walked-few (volume_in c.args.geometry c.args.blocks.now) (inodes_of c.args.geometry) c.loop-done.walk.seen.items c.loop-done.walk.order.items c.loop-done.done 0 c.loop-done.invariant in
    let going : c.loop-done.done < length c.loop-done.walk.order.items = search rules in
    omega arith

pub returns-clause-ok : goal.returns-clause-ok
returns-clause-ok c = walked-whole (volume_in c.args.geometry c.args.blocks.now) (inodes_of c.args.geometry) c.loop-done.walk.seen.items c.loop-done.walk.order.items c.loop-done.done c.requires.once c.loop-done.invariant (search rules)
