use Rattle.std.proofs.Common.{◌≡◌, length, sym, subst, ◌∙◌}
use Rattle.std.proofs.lemmas.Result.{on_ok_weaker}
use Rattle.mq_inodes.specs.Growing.{HasGot}
use Rattle.mq_inodes.specs.Pages.{pages_of}
use Rattle.mq_inodes.proofs.GrowingByOne.{count-items}
use Rattle.mq_inodes.proofs.Growing.{far-indirect, got-block, got-pointed}
use Rattle.mq_tree.specs.Volume.{Volume}
use Rattle.mq_inodes.proofs.working.Working.add.Goals as goal
use Rattle.mq_inodes.proofs.working.Working.add.Goals.{else-len-via-then-len+else-o-eq0, else-len-via-else-len}

pub append-requires-clause-far : goal.append-requires-clause-far
append-requires-clause-far c =
    let p = c.requires.possible in
    far-indirect c.args.self.now.geometry (pages_of c.args.self.now) p.0 c.args.o.now c.args.b p.1 p.2 (λ twelve zero. elim c.else-len.branch [
      | else-len-via-then-len+else-o-eq0 w ↦ w.if-o-eq0.false zero
      | else-len-via-else-len w ↦ w.if-len.false (c.len.ensures ∙ count-items c.args.o.now ∙ twelve)
    ])

pub returns-then-o-eq0-clause-got : goal.returns-then-o-eq0-clause-got
returns-then-o-eq0-clause-got c =
    let g = c.args.self.now.geometry in
    let o = c.args.o.now in
    let twelve : length o.blocks.items ≡ 12 = sym (c.len.ensures ∙ count-items o) ∙ c.if-len.true in
    on_ok_weaker c.point.result (λ got v carries may.
    subst (λ (w : Volume). HasGot g v w c.args.self.now c.point.new.self o c.point.new.o) (sym (got-pointed g (pages_of c.args.self.now) v o c.args.b carries may twelve c.if-o-eq0.true)) (got v carries may)) c.point.ensures.got

pub returns-else-len-clause-got : goal.returns-else-len-clause-got
returns-else-len-clause-got c =
    let g = c.args.self.now.geometry in
    let o = c.args.o.now in
    on_ok_weaker c.append.result (λ got v carries may.
    subst (λ (w : Volume). HasGot g v w c.args.self.now c.append.new.self o c.append.new.o) (sym (got-block g v o c.args.b may (λ twelve zero. elim c.else-len.branch [
      | else-len-via-then-len+else-o-eq0 w ↦ w.if-o-eq0.false zero
      | else-len-via-else-len w ↦ w.if-len.false (c.len.ensures ∙ count-items c.args.o.now ∙ twelve)
    ]))) (got v carries may)) c.append.ensures.got
