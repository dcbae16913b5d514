use Rattle.std.proofs.Common.{ℕ, List, Option, None, get_or, ◌∙◌, ap, arith}
use Rattle.mq_blocks.specs.Machine.{Writes}
use Rattle.mq_block_trace.specs.Lines.{set_in, writes_from, named}
use Rattle.mq_block_trace.proofs.LinesFills.{named_is, writes-along}
use Rattle.mq_replica.specs.declared.update.Update.{Update}
use Rattle.mq_command_replicate.proofs.updates.update_of.Goals as goal

pub returns : goal.returns
returns c =
    let fills : List (Option ℕ) = c.in_ok-fills.fills.items in
    ap (λ (ws : Writes). let u : Update = record { number = c.args.number; writes = ws } in u)
    (c.in_ok-filled_writes.ensures ∙ ap (λ (l : List (Option ℕ)). writes_from (λ b. get_or l b None) 0 named) c.deref.ensures.value
    ∙ writes-along (λ b. get_or fills b None) (set_in c.args.line.now) 0 named (λ k low high. c.in_ok-fills.ensures.1 k (omega (arith, high, named_is))))
