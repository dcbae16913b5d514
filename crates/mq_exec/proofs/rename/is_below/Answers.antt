use Rattle.std.proofs.Common.{ap, length, arith}
use Rattle.mq_tree.specs.Volume.{Path}
use Rattle.mq_exec.proofs.RequestsBelow.{names-past, not-longer}
use Rattle.mq_exec.proofs.rename.is_below.Goals as goal

pub returns-then-len : goal.returns-then-len
returns-then-len c =
    let m = ap (λ (p : Path). length p) c.path.view_is in
    let n = ap (λ (p : Path). length p) c.below.view_is in
    not-longer c.args.path.now c.args.below.now (let a = c.len.ensures in let b = c.len-2.ensures in let l = c.if-len.true in omega arith)

pub returns : goal.returns
returns c =
    let m = ap (λ (p : Path). length p) c.path.view_is in
    let n = ap (λ (p : Path). length p) c.below.view_is in
    let a = c.len.ensures in
    let b = c.len-2.ensures in
    let d = c.len-k-end.ensures in
    let l = c.if-len.false in
    let k = c.loop-k.auto.k-end in
    let f = c.loop-k-test.false in
    names-past c.args.path.now c.args.below.now c.loop-k.k (omega arith) (omega arith) c.loop-k.invariant
