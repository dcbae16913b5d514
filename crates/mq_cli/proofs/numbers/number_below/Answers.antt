use Rattle.std.proofs.Common.{sym, ◌∙◌, ap}
use Rattle.mq_block_text.specs.Words.{number_in}
use Rattle.mq_cli.proofs.Asked.{within_some}
use Rattle.mq_cli.proofs.numbers.number_below.Goals as goal

pub returns-in-Some : goal.returns-in-Some
returns-in-Some c =
    within_some c.args.limit c.in-Some.value c.args.word.now (sym c.in-Some.is ∙ c.number_of.ensures ∙ ap number_in c.as_bytes.ensures.value) c.if-value-limit.true
