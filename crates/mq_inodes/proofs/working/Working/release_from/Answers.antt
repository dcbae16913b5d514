use Rattle.std.proofs.Common.{drop, subst, arith}
use Rattle.mq_inodes.specs.Released.{Releases}
use Rattle.mq_inodes.proofs.Released.{releasable-along, releases-both, rest-all}
use Rattle.mq_inodes.proofs.working.Working.release_from.Goals as goal

pub release_one-requires : goal.release_one-requires
release_one-requires c =
    let e = rest-all c.args.o.now.blocks.items c.deref.result.now c.args.count c.deref.ensures.value in
    releasable-along c.args.self.now c.release.new.self (drop c.args.count c.args.o.now.blocks.items) c.args.o.now.inode.indirect (subst (λ xs. Releases c.args.self.now c.release.new.self xs) e c.in_ok-release.ensures) (c.requires.pointers (omega (arith, c.if-count-le-DIRECT.true)) (omega (arith, c.len.ensures, c.if-len.true)))

pub returns-in_ok-release_one : goal.returns-in_ok-release_one
returns-in_ok-release_one c =
    let e = rest-all c.args.o.now.blocks.items c.deref.result.now c.args.count c.deref.ensures.value in
    releases-both c.args.self.now c.release.new.self c.release_one.new.self c.args.o.now c.args.count (omega (arith, c.if-count-le-DIRECT.true)) (omega (arith, c.len.ensures, c.if-len.true)) (subst (λ xs. Releases c.args.self.now c.release.new.self xs) e c.in_ok-release.ensures) c.in_ok-release_one.ensures
