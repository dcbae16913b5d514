use Rattle.std.proofs.Common.{◌∙◌, ap}
use Rattle.mq_script.specs.Lines.{an_end}
use Rattle.mq_script.specs.Words.{words_after}
use Rattle.mq_script.proofs.Lines.{end_more}
use Rattle.mq_script.proofs.line.read_end.Goals as goal

pub returns-in-Some : goal.returns-in-Some
returns-in-Some c = ap (λ t. an_end c.args.end (words_after t)) c.in-Some.is ∙ end_more c.args.end c.in-Some.field-0.now
