use Rattle.std.proofs.Common.{◌≡◌, ◌-◌, true, false, Some, ap, ◌∙◌, sym, arith}
use Rattle.std.proofs.lemmas.Bool.{not-true, not-false}
use Rattle.std.proofs.lemmas.Result.{err_from_is_err_and}
use Rattle.mq_blocks.proofs.DriveQuiescent.{head-of}
use Rattle.mq_nvme.specs.Says.{says}
use Rattle.mq_recover.specs.Refusals.{NewestCommit, NewestLimit, entry_at}
use Rattle.mq_recover.proofs.RefusalsChains.{newest-entry}
use Rattle.mq_recover.proofs.chain.read_newest.Goals as goal

pub returns-in_err-last-clause-refused : goal.returns-in_err-last-clause-refused
returns-in_err-last-clause-refused g c =
    let s = g.P.Port.state c.args.port.now in
    let head = head-of c.head-head.result s c.requires.quiet c.head-head.ensures in
    let p = err_from_is_err_and c.from_residual.result c.from_residual.ensures.1 in
    rw (p.1, p.2) (newest-entry s (c.head-head.result - 1) c.in_err-last.field-0.0 (omega (arith, head, c.if-head-eq0.false)) (ap (λ n. n - 1) head) c.in_err-last.ensures.refused)

pub returns-then-not-last-clause-refused : goal.returns-then-not-last-clause-refused
returns-then-not-last-clause-refused g c =
    let s = g.P.Port.state c.args.port.now in
    let last = c.in_ok-last.last in
    let head = head-of c.head-head.result s c.requires.quiet c.head-head.ensures in
    let plain : last.commit ≡ false = not-true last.commit c.if-not-last.true in
    NewestCommit last.tx last.lba (omega (arith, head, c.if-head-eq0.false)) (ap (λ n. says (entry_at s (n - 1))) (sym head) ∙ c.in_ok-last.ensures.ok ∙ ap (λ b. Some (last.tx, last.lba, b)) plain)

pub returns-then-last-gt-LIMIT-clause-refused : goal.returns-then-last-gt-LIMIT-clause-refused
returns-then-last-gt-LIMIT-clause-refused g c =
    let s = g.P.Port.state c.args.port.now in
    let last = c.in_ok-last.last in
    let head = head-of c.head-head.result s c.requires.quiet c.head-head.ensures in
    let whole : last.commit ≡ true = not-false last.commit c.if-not-last.false in
    NewestLimit last.tx last.lba (omega (arith, head, c.if-head-eq0.false)) (ap (λ n. says (entry_at s (n - 1))) (sym head) ∙ c.in_ok-last.ensures.ok ∙ ap (λ b. Some (last.tx, last.lba, b)) whole) (omega (arith, c.if-last-gt-LIMIT.true))
