use Rattle.std.proofs.Common.{arith, ◌∙◌}
use Rattle.mq_drive.proofs.Happened.{happened-is, happened-alone}
use Rattle.mq_drive.proofs.device.Device.events.Goals as goal

pub returns-clause-most : goal.returns-clause-most
returns-clause-most c = λ l is.
    let counted = c.args.self.now.power.counted l is in
    let few = c.args.self.now.power.seat.apart l in
    omega (arith, c.happened.ensures, counted, few)

pub returns-clause-homes : goal.returns-clause-homes
returns-clause-homes c = c.happened.ensures ∙ happened-is c.args.self.now

pub returns-clause-state : goal.returns-clause-state
returns-clause-state c = λ none. c.happened.ensures ∙ happened-alone c.args.self.now none
