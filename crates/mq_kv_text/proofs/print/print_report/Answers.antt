use Rattle.std.proofs.Common.{rules, ◌≡◌, [], ◌∷◌, ◌++◌, ◌∙◌, List, ap}
use Rattle.mq_block_text.specs.Refusals.{ended}
use Rattle.mq_kv_text.specs.Reports.{groups_lines, last_line}
use Rattle.mq_kv_text.specs.declared.report.GroupReport.{GroupReport}
use Rattle.mq_kv_text.specs.declared.report.LastLine.{LastLine}
use Rattle.mq_kv_text.proofs.ReportsPrinted.{lines_more}
use Rattle.mq_kv_text.proofs.print.print_report.Goals as goal

pub returns : goal.returns
returns c =
    let same : c.deref.result.now ≡ c.args.report.now.groups = search rules in
    let last : c.report.inside.last ≡ c.args.report.now.last = search rules in
    lines_more [] _ _ (groups_lines c.args.report.now.groups) (last_line c.args.report.now.last ∷ [])
    (c.in_ok-put_groups.ensures ∙ ap (λ t. t ++ ended 10 (groups_lines c.deref.result.now)) c.new-out.ensures.items
    ∙ ap (λ (gs : List GroupReport). ended 10 (groups_lines gs)) same)
    (c.in_ok-put_last.ensures ∙ ap (λ (x : LastLine). c.put_groups.new.out.items ++ ended 10 (last_line x ∷ [])) last)
