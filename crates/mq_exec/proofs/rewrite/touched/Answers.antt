use Rattle.std.proofs.Common.{◌/◌, ℕ, ap, ◌∙◌}
use Rattle.mq_exec.specs.Overwrites.{blocks_at}
use Rattle.mq_exec.proofs.Longer.{slice-at}
use Rattle.mq_exec.proofs.rewrite.touched.Goals as goal

pub returns : goal.returns
returns c =
    slice-at c.args.blocks.now (c.args.at / 4096) c.past_place.result c.min-first.result c.min-past.result c.min-past.ensures c.min-first.ensures ∙ ap (λ (k : ℕ). blocks_at c.args.blocks.now (c.args.at / 4096) k) c.past_place.ensures
