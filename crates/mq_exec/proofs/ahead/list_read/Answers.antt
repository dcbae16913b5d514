use Rattle.std.proofs.lemmas.Result.{on_ok_weaker}
use Rattle.mq_exec.specs.Reads.{LooksAlways}
use Rattle.mq_exec.proofs.AheadLacking.{adds-listed}
use Rattle.mq_exec.proofs.PlansUnseen.{adds-none}
use Rattle.mq_inodes.specs.MissingPages.{OfEach}
use Rattle.mq_inodes.specs.Pages.{pages_of}
use Rattle.mq_exec.proofs.ahead.list_read.Goals as goal

pub returns-in-Ok : goal.returns-in-Ok
returns-in-Ok c =
    let w = c.args.working.now in
    adds-none (pages_of w) (λ b. OfEach w (λ v. LooksAlways w.geometry v c.args.request.now b)) c.args.lacked.now.items

pub returns : goal.returns
returns c =
    let w = c.args.working.now in
    on_ok_weaker c.list.result (adds-listed (pages_of w) (λ b. OfEach w (λ v. LooksAlways w.geometry v c.args.request.now b)) c.in-Err.lack c.args.lacked.now.items c.list.new.lacked.items c.in-Err.ensures.lack) c.list.ensures
