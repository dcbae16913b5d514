use Rattle.std.proofs.Common.{◌≡◌}
use Rattle.mq_check.specs.Verdicts.{Judges, Repeats}
use Rattle.mq_check.specs.declared.verdict.Verdict.TheVariants.{Unsound}
use Rattle.mq_check.proofs.Firsts.{first-judged}
use Rattle.mq_check.proofs.Judged.{along, repeated}
use Rattle.mq_check.proofs.checks.check.Goals as goal

pub returns-in-Err-clause-verdict : goal.returns-in-Err-clause-verdict
returns-in-Err-clause-verdict c =
    let g = c.args.geometry in
    let s = c.args.blocks.now in
    let r = c.in-Err.refusal in
    along (Repeats r) (Judges g s) c.judge_refusal.result (λ v is. repeated g s r v is c.in-Err.ensures.cause c.in-Err.ensures.none) c.judge_refusal.ensures.found

pub returns-in-Err-clause-first : goal.returns-in-Err-clause-first
returns-in-Err-clause-first c phase cause b first =
    let g = c.args.geometry in
    let s = c.args.blocks.now in
    let r = c.in-Err.refusal in
    along (Repeats r) (λ v. v ≡ Unsound phase cause b) c.judge_refusal.result (λ v is. first-judged g s v phase cause b c.are_pages.ensures (repeated g s r v is c.in-Err.ensures.cause c.in-Err.ensures.none) first) c.judge_refusal.ensures.found

pub returns-in-Ok-clause-first : goal.returns-in-Ok-clause-first
returns-in-Ok-clause-first c phase cause b first = first-judged c.args.geometry c.args.blocks.now c.judge_tree.result phase cause b c.are_pages.ensures c.judge_tree.ensures first
