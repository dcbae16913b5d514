use Rattle.std.proofs.Common.{◌≡◌, List, ℕ, subst}
use Rattle.std.specs.Prelude.{IfOk}
use Rattle.std.specs.String.{string_bytes}
use Rattle.mq_block_trace.proofs.StepTexts.{ack_text}
use Rattle.mq_block_trace.proofs.steps.ack_line.Goals as goal

pub returns : goal.returns
returns c = subst (λ (l : List ℕ). IfOk c.format.result (λ s. string_bytes s ≡ l)) (ack_text c.args.number) c.format.ensures.ok
