use Rattle.std.proofs.lemmas.Result.{err_from_is_err_and}
use Rattle.mq_tree.proofs.TreesWalkways.{walk-lost, walk-on, walk-stuck}
use Rattle.mq_tree.proofs.tree.Tree.walk.Goals as goal

pub returns-in_err-inode : goal.returns-in_err-inode
returns-in_err-inode c =
    let p = err_from_is_err_and c.from_residual.result c.from_residual.ensures.1 in
    rw (p.1, p.2) (walk-lost c.args.self.now c.args.names.now c.loop-name.name-index c.loop-name.directory c.name-item.result _ c.loop-name-test.true c.name-item.is c.loop-name.invariant c.in_err-inode.ensures)

pub returns-in_err-directory : goal.returns-in_err-directory
returns-in_err-directory c =
    let p = err_from_is_err_and c.from_residual-in_err-directory.result c.from_residual-in_err-directory.ensures.1 in
    rw (p.1, p.2) (walk-stuck c.args.self.now c.args.names.now c.loop-name.name-index c.loop-name.directory c.in_ok-inode.inode c.name-item.result _ c.loop-name-test.true c.name-item.is c.loop-name.invariant c.in_ok-inode.ensures c.in_err-directory.ensures)

pub loop-name-preserved : goal.loop-name-preserved
loop-name-preserved c = walk-on c.args.self.now c.args.names.now c.loop-name.name-index c.loop-name.directory c.in_ok-inode.inode c.in_ok-directory.directory c.name-item.result c.loop-name-test.true c.name-item.is c.loop-name.invariant c.in_ok-inode.ensures c.in_ok-directory.ensures
