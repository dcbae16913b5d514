use Rattle.std.proofs.Common.{sym, ◌∙◌}
use Rattle.std.proofs.lemmas.Bool.{true≢false}
use Rattle.std.proofs.lemmas.Result.{IfOk-weaker}
use Rattle.mq_exec.specs.Plans.{ComesTo}
use Rattle.mq_exec.proofs.ReadsStepping.{comes-read, lack-named, lack-read, reads-bytes}
use Rattle.mq_inodes.specs.MissingPages.{OfEach}
use Rattle.mq_tree.specs.Requests.{verdict}
use Rattle.mq_exec.proofs.change.step.Goals as goal

pub returns-then-not-changes-clause-ok : goal.returns-then-not-changes-clause-ok
returns-then-not-changes-clause-ok c =
    let w = c.args.working.now in
    IfOk-weaker c.answer.result _ (λ reply. OfEach w (λ v. ComesTo w.geometry v (verdict w.geometry c.args.queue v c.args.request.now) reply w w)) (λ reply h v agrees. comes-read w.geometry c.args.queue v c.args.request.now reply w agrees (h v agrees)) c.answer.ensures.ok

pub returns-then-not-changes-clause-lack : goal.returns-then-not-changes-clause-lack
returns-then-not-changes-clause-lack c = lack-read c.args.working.now c.args.queue c.args.request.now c.answer.result c.answer.ensures.lack

pub returns-clause-lack : goal.returns-clause-lack
returns-clause-lack c = lack-named c.args.working.now c.args.queue c.args.request.now c.change.result (sym c.if-not-is_named.ensures) c.change.ensures.lack

pub returns-then-not-changes-clause-bytes : goal.returns-then-not-changes-clause-bytes
returns-then-not-changes-clause-bytes c good = reads-bytes c.args.request.now (sym c.if-not-changes.ensures)

pub returns-then-not-is_named-clause-bytes : goal.returns-then-not-is_named-clause-bytes
returns-then-not-is_named-clause-bytes c good = absurd (true≢false (sym good ∙ sym c.if-not-is_named.ensures))
