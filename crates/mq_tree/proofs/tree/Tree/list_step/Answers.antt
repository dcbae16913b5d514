use Rattle.std.proofs.Common.{rules, length, ◌≡◌, codes}
use Rattle.mq_tree.specs.ListText.{head_of}
use Rattle.mq_tree.specs.Volume.{body}
use Rattle.mq_tree.proofs.ListText.{written-inside, written-todo}
use Rattle.mq_tree.proofs.tree.Tree.list_step.Goals as goal

pub returns-clause-todo : goal.returns-clause-todo
returns-clause-todo c =
    let from : c.len-from.result ≡ length c.put_head.new.text.items = search rules in
    let to : c.len-to.result ≡ length c.put_path.new.text.items = search rules in
    written-todo c.args.text.now.items (head_of (body c.args.self.now c.args.step.now.link.inode)) (codes "\n") c.put_head.new.text.items c.put_path.new.text.items c.extend_from_slice.new.self.items c.args.step.now c.len-from.result c.len-to.result _ c.args.todo.now.items c.push_links.new.todo.items
    (record { first = c.in_ok-put_head.ensures; second = c.in_ok-put_path.ensures; third = c.in_ok-extend_from_slice.ensures.items; inside = c.requires.step }) from to c.requires.inside c.in_ok-push_links.ensures.todo

pub returns-clause-inside : goal.returns-clause-inside
returns-clause-inside c =
    let to : c.len-to.result ≡ length c.put_path.new.text.items = search rules in
    written-inside c.args.text.now.items (head_of (body c.args.self.now c.args.step.now.link.inode)) (codes "\n") c.put_head.new.text.items c.put_path.new.text.items c.extend_from_slice.new.self.items c.args.step.now c.len-to.result c.args.todo.now.items c.push_links.new.todo.items
    (record { first = c.in_ok-put_head.ensures; second = c.in_ok-put_path.ensures; third = c.in_ok-extend_from_slice.ensures.items; inside = c.requires.step }) to c.requires.inside c.in_ok-push_links.ensures.inside
