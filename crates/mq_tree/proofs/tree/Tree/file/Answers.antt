use Rattle.std.proofs.Common.{ap, sym, ◌∙◌}
use Rattle.std.specs.List.{list_all}
use Rattle.mq_layout.specs.Names.{is_name}
use Rattle.mq_tree.proofs.TreesWalkways.{reads-in}
use Rattle.mq_tree.proofs.tree.Tree.file.Goals as goal

pub returns-in_ok-inode-in-Some : goal.returns-in_ok-inode-in-Some
returns-in_ok-inode-in-Some c =
    reads-in c.args.self.now c.args.path.now c.in-Some.names.now c.in-Some.last.now c.in_ok-directory-in-Some.directory c.in_ok-inode-in-Some.inode c.bytes-in-Some.result (ap (list_all is_name) (sym (c.deref.ensures.value ∙ c.path.view_is)) ∙ sym c.are_good.ensures ∙ c.if-not-are_good.false)
    (sym (c.deref-2.ensures.value ∙ c.path.view_is) ∙ c.in-Some.ensures.cases.0) c.in_ok-directory-in-Some.ensures c.in_ok-inode-in-Some.ensures c.bytes-in-Some.ensures
