use Rattle.std.proofs.Common.{sym, ◌∙◌}
use Rattle.mq_drive.proofs.StepsFaults.{an_error, no_error_yet}
use Rattle.mq_drive.proofs.device.Device.failed.Goals as goal

pub returns-clause-errors : goal.returns-clause-errors
returns-clause-errors c = λ is all. an_error c.args.self.now (sym c.failed.ensures ∙ is) all

pub returns-clause-no_error : goal.returns-clause-no_error
returns-clause-no_error c = λ is. no_error_yet c.args.self.now (sym c.failed.ensures ∙ is)
