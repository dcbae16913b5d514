use Rattle.std.proofs.Common.{◌+◌, true, false, Vec, Global, arith, ap, ◌∙◌}
use Rattle.std.specs.Prelude.{not}
use Rattle.mq_blocks.specs.Journal.{is_among}
use Rattle.mq_blocks.specs.declared.numbers.TxNo.{TxNo}
use Rattle.mq_audit.proofs.Telling.{taken, left_out, told_is}
use Rattle.mq_audit.proofs.finding.untold.Goals as goal
use Rattle.mq_audit.proofs.finding.untold.Goals.{then-not-told-at+in_ok-push, else-not-told-at}

pub loop-at-preserved : goal.loop-at-preserved
loop-at-preserved c = λ ns table.
    let at = c.loop-at.at in
    let base = c.args.base in
    elim c.if-not-told-at.branch [
      | then-not-told-at+in_ok-push w ↦
          taken (λ n. not (is_among n ns)) (base + 1) at (base + at + 1) c.loop-at.waiting.items c.if-not-told-at.waiting.items (c.loop-at.invariant ns table)
          (told_is base at ns c.args.told.now false table (omega (arith, c.loop-at-test.true, c.requires.drawn)) w.if-not-told-at.true)
          (omega arith) (ap (λ (v : Vec TxNo Global). v.items) w.waiting-is ∙ w.in_ok-push.ensures.items)
      | else-not-told-at w ↦
          ap (λ (v : Vec TxNo Global). v.items) w.waiting-is
          ∙ left_out (λ n. not (is_among n ns)) (base + 1) at c.loop-at.waiting.items (c.loop-at.invariant ns table)
          (told_is base at ns c.args.told.now true table (omega (arith, c.loop-at-test.true, c.requires.drawn)) w.if-not-told-at.false)
    ]
