use Rattle.std.proofs.lemmas.Result.{on_ok_weaker}
use Rattle.std.specs.List.{Contains}
use Rattle.mq_exec.proofs.AheadLacking.{adds-listed}
use Rattle.mq_exec.proofs.PlansUnseen.{adds-none}
use Rattle.mq_inodes.specs.Pages.{pages_of}
use Rattle.mq_exec.proofs.ahead.list_absent.Goals as goal

pub returns-in-Ok : goal.returns-in-Ok
returns-in-Ok c = adds-none (pages_of c.args.working.now) (Contains c.args.blocks.now) c.args.lacked.now.items

pub returns-in-Err : goal.returns-in-Err
returns-in-Err c = on_ok_weaker c.list.result (adds-listed (pages_of c.args.working.now) (Contains c.args.blocks.now) c.in-Err.lack c.args.lacked.now.items c.list.new.lacked.items c.in-Err.ensures.lack) c.list.ensures
