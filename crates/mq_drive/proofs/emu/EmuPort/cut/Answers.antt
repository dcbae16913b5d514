use Rattle.std.proofs.Common.{◌<◌, sym, ◌∙◌, ap, subst}
use Rattle.mq_drive.specs.Failures.{errors_of}
use Rattle.mq_drive.specs.Fuse.{above, below}
use Rattle.mq_drive.specs.Seats.{tickets_of}
use Rattle.mq_drive.specs.declared.device.Device.{Device}
use Rattle.mq_drive.proofs.StepsFaults.{some_off, contains_first}
use Rattle.mq_drive.proofs.Happened.{happened-is}
use Rattle.mq_drive.proofs.emu.EmuPort.cut.Goals as goal

pub returns-clause-off : goal.returns-clause-off
returns-clause-off c = λ l is has.
    subst (λ s. 0 < above l (tickets_of s)) (sym (c.cut.ensures.seat ∙ ap (λ (d : Device). d.power.seat) c.into_inner.ensures))
    (c.args.self.device.value.power.off l is (some_off c.args.self.device.value.power.offs c.args.self.device.value.failure has))

pub returns-clause-on : goal.returns-clause-on
returns-clause-on c = λ l is over.
    contains_first c.args.self.device.value.power.offs (errors_of c.args.self.device.value.failure)
    (c.args.self.device.value.power.on l is (subst (λ s. 0 < above l (tickets_of s)) (c.cut.ensures.seat ∙ ap (λ (d : Device). d.power.seat) c.into_inner.ensures) over))

pub returns-clause-homes : goal.returns-clause-homes
returns-clause-homes c = λ l is.
    ap (λ s. below l (tickets_of s)) (c.cut.ensures.seat ∙ ap (λ (d : Device). d.power.seat) c.into_inner.ensures) ∙ sym (c.args.self.device.value.power.counted l is) ∙ happened-is c.args.self.device.value
