use Rattle.std.proofs.Common.{[], ◌∷◌, ◌++◌, ◌∙◌, ap}
use Rattle.mq_kv_text.proofs.ReportsPrinted.{line_written}
use Rattle.mq_kv_text.proofs.print.put_line.Goals as goal

pub returns : goal.returns
returns c =
    c.in_ok-push.ensures.items ∙ ap (λ t. t ++ 10 ∷ []) c.in_ok-put_number.ensures ∙ line_written c.args.out.now.items c.args.word.now c.args.number
