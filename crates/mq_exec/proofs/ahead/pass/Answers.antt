use Rattle.std.proofs.Common.{sym}
use Rattle.mq_exec.specs.Reads.{LooksAlways}
use Rattle.mq_exec.proofs.AheadLacking.{adds-listed}
use Rattle.mq_exec.proofs.ReadsStepping.{reads-bytes}
use Rattle.mq_exec.proofs.PlansUnseen.{adds-none, adds-weaker, goes-same, steps-on}
use Rattle.mq_inodes.specs.MissingPages.{OfEach}
use Rattle.mq_inodes.specs.Pages.{pages_of}
use Rattle.mq_tree.specs.Looks.{Looks}
use Rattle.mq_tree.proofs.KeptSteps.{reading-same}
use Rattle.mq_exec.proofs.ahead.pass.Goals as goal

pub returns-then-not-changes-clause-adds : goal.returns-then-not-changes-clause-adds
returns-then-not-changes-clause-adds c =
    let w = c.args.working.now in
    adds-weaker (pages_of w) (λ b. OfEach w (λ v. LooksAlways w.geometry v c.args.request.now b)) (λ b. OfEach w (λ v. Looks w.geometry c.args.queue v c.args.request.now b)) c.args.lacked.now.items c.list_read.new.lacked.items (λ b h v agrees. h v agrees c.args.queue) c.in_ok-list_read.ensures

pub returns-then-not-changes-clause-goes : goal.returns-then-not-changes-clause-goes
returns-then-not-changes-clause-goes c goes =
    let w = c.args.working.now in
    goes-same c.args.queue c.args.request.now w (λ v agrees. reading-same w.geometry c.args.queue v c.args.request.now (sym c.if-not-changes.ensures))

pub returns-in-Ok-clause-adds : goal.returns-in-Ok-clause-adds
returns-in-Ok-clause-adds c =
    let w = c.args.working.now in
    adds-none (pages_of w) (λ b. OfEach w (λ v. Looks w.geometry c.args.queue v c.args.request.now b)) c.args.lacked.now.items

pub returns-in-Ok-clause-goes : goal.returns-in-Ok-clause-goes
returns-in-Ok-clause-goes c goes = steps-on c.args.queue c.args.request.now c.in-Ok.field-0 c.args.working.now c.step.new.working c.requires.queue c.in-Ok.ensures.bytes c.in-Ok.ensures.over c.in-Ok.ensures.ok

pub returns-clause-adds : goal.returns-clause-adds
returns-clause-adds c =
    let w = c.args.working.now in
    adds-listed (pages_of w) (λ b. OfEach w (λ v. Looks w.geometry c.args.queue v c.args.request.now b)) c.in-Err.lack c.args.lacked.now.items c.list.new.lacked.items c.in-Err.ensures.lack c.in_ok-list-in-Err.ensures

pub returns-then-not-changes-clause-bytes : goal.returns-then-not-changes-clause-bytes
returns-then-not-changes-clause-bytes c good = reads-bytes c.args.request.now (sym c.if-not-changes.ensures)
