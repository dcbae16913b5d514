use Rattle.std.proofs.Common.{◌+◌, List, sym, subst, take}
use Rattle.mq_report.specs.declared.line.Line.{Line}
use Rattle.mq_tie.specs.Runs.{history_of}
use Rattle.mq_run.specs.Lines.{AreCommitLines}
use Rattle.mq_run.proofs.LinesGrowing.{commit_next, commit_start}
use Rattle.mq_run.proofs.lines.commit_lines.Goals as goal

pub loop-at-init : goal.loop-at-init
loop-at-init g c = commit_start (history_of c.args.ended.now) c.in_ok-lines.lines.items c.in_ok-lines.ensures.items

pub loop-at-preserved : goal.loop-at-preserved
loop-at-preserved g c =
    let hs = history_of c.args.ended.now in
    subst (λ (ls : List Line). AreCommitLines (take (c.loop-at.at + 1) hs) ls) (sym c.in_ok-push.ensures.items)
    (commit_next hs c.loop-at.at c.drawn.result.now.number c.drawn.result.now.entry c.in_ok-commit_line.field-0 c.loop-at.lines.items c.loop-at.invariant c.drawn.ensures c.in_ok-commit_line.ensures)
