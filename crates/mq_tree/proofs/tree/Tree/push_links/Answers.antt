use Rattle.std.proofs.Common.{arith, rules, ap, get_or, length, ℕ, ◌∙◌, ◌≡◌, ◌+◌, ◌-◌}
use Rattle.mq_tree.proofs.ListText.{pushed-more}
use Rattle.mq_tree.proofs.tree.Tree.push_links.Goals as goal

pub loop-k-preserved : goal.loop-k-preserved
loop-k-preserved c =
    let n : c.len-k-end.result ≡ length c.in_ok-links.links.items = search rules in
    let m : c.len.result ≡ length c.in_ok-links.links.items = search rules in
    let t = c.loop-k-test.true in
    let place : c.len.result - 1 - c.loop-k.k ≡ length c.in_ok-links.links.items - (c.loop-k.k + 1) = omega arith in
    pushed-more c.args.from c.args.to c.in_ok-links.links.items (length c.in_ok-links.links.items - c.loop-k.k) (length c.in_ok-links.links.items - (c.loop-k.k + 1)) c.args.todo.now.items c.loop-k.todo.items c.push.new.self.items c.index-link.result.now c.requires c.loop-k.invariant (omega arith) (omega arith) (c.index-link.ensures ∙ ap (λ (i : ℕ). get_or c.in_ok-links.links.items i c.index-link.result.now) place) c.in_ok-push.ensures.items
