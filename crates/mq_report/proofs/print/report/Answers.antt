use Rattle.std.proofs.Common.{◌∙◌, ◌++◌, ◌∷◌, [], map, ap, rules}
use Rattle.mq_report.specs.Texts.{base_line, entry_lines, last_line, spaced, spelled, told_line}
use Rattle.mq_report.proofs.Lines.{whole}
use Rattle.mq_report.proofs.RangesAll.{are-fit, are-small}
use Rattle.mq_report.proofs.print.report.Goals as goal

pub returns : goal.returns
returns c =
    let text =
    c.in_ok-push.ensures.items
    ∙ ap (λ t. t ++ 10 ∷ []) (c.in_ok-put_last.ensures.text
    ∙ ap (λ t. t ++ spaced (last_line c.args.last.now)) (c.in_ok-put_answers.ensures.text
    ∙ ap (λ t. t ++ spelled (map told_line c.args.answers.now)) (c.in_ok-put_entries.ensures.text
    ∙ ap (λ t. t ++ spelled (entry_lines c.args.entries.now)) (c.in_ok-put_base.ensures
    ∙ ap (λ t. t ++ spaced (base_line c.args.base) ++ 10 ∷ []) c.new-out.ensures.items))))
    ∙ whole c.args.base c.args.entries.now c.args.answers.now c.args.last.now in record {
      text = text;
      report = λ may. record {
        text_is = text;
        entries_order = may.entries_order;
        answers_order = may.answers_order;
        ranges = record {
          base_small = search rules;
          entries_fit = are-fit c.args.entries.now may.replies_fit c.in_ok-put_entries.ensures.small;
          answers_small = are-small c.args.answers.now c.in_ok-put_answers.ensures.small;
          last_small = c.in_ok-put_last.ensures.small;
        };
      };
    }
