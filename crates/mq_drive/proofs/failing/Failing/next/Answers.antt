use Rattle.std.proofs.Common.{sym, ◌∙◌}
use Rattle.mq_drive.proofs.Emulated.{named_next, none_next}
use Rattle.mq_drive.proofs.failing.Failing.next.Goals as goal
use Rattle.mq_drive.proofs.failing.Failing.next.Goals.{then-not-self, else-not-self}

pub returns-else-fails-clause-is : goal.returns-else-fails-clause-is
returns-else-fails-clause-is c =
    let p = c.args.self.now in
    elim c.if-not-self.branch [
      | then-not-self w ↦ w.fails-is ∙ w.eq-fails.ensures ∙ named_next p.named p.executed c.bump-self.result p.small c.bump-self.ensures (sym p.exact ∙ w.if-not-self.true)
      | else-not-self w ↦ c.if-fails.false ∙ sym (none_next p.named p.executed (sym p.exact ∙ w.if-not-self.false))
    ]
