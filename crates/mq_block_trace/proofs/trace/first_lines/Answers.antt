use Rattle.std.proofs.Common.{◌≡◌, ◌++◌, ◌∷◌, List, ℕ, ◌∙◌, subst}
use Rattle.std.specs.Prelude.{IfOk, codes, decimal}
use Rattle.std.specs.String.{string_bytes}
use Rattle.mq_blocks.specs.declared.geometry.Geometry.{Geometry}
use Rattle.mq_block_trace.proofs.StepTexts.{head_text}
use Rattle.mq_block_trace.proofs.trace.first_lines.Goals as goal

abbrev printed : (queues area meta zone : ℕ) → List ℕ
printed queues area meta zone = codes "geometry " ++ (decimal queues ++ 32 ∷ (decimal area ++ 32 ∷ (decimal meta ++ 32 ∷ (decimal zone ++ codes " 0\nstart\n"))))

pub returns : goal.returns
returns c =
    let g : Geometry = c.args.geometry in
    let numbers : printed c.queues-queues.result c.area-area.result c.meta-meta.result c.zone-zone.result ≡ printed g.queues g.area g.meta g.zone = λ i. printed (c.queues-queues.ensures i) (c.area-area.ensures i) (c.meta-meta.ensures i) (c.zone-zone.ensures i) in
    subst (λ (l : List ℕ). IfOk c.format.result (λ s. string_bytes s ≡ l)) (numbers ∙ head_text g) c.format.ensures.ok
