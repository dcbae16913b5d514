use Rattle.std.proofs.Common.{◌≡◌, List, ℕ, subst, arith}
use Rattle.std.specs.Prelude.{IfOk}
use Rattle.std.specs.String.{string_bytes}
use Rattle.mq_block_trace.proofs.StepTexts.{stage_text, flush_text, ring_text, complete_text, store_text, last_text}
use Rattle.mq_block_trace.proofs.steps.step_line.Goals as goal

pub returns-then-at-tx : goal.returns-then-at-tx
returns-then-at-tx c =
    subst (λ (l : List ℕ). IfOk c.format.result (λ s. string_bytes s ≡ l)) (stage_text c.args.tx.count c.args.tx.entries c.args.at c.if-at-tx.true) c.format.ensures.ok

pub returns-then-at-tx-2 : goal.returns-then-at-tx-2
returns-then-at-tx-2 c =
    let above = c.if-at-tx.false in
    let below = c.if-at-tx-2.true in
    subst (λ (l : List ℕ). IfOk c.format-then-at-tx-2.result (λ s. string_bytes s ≡ l)) (flush_text c.args.tx.count c.args.tx.entries c.args.at (omega (arith, above, below))) c.format-then-at-tx-2.ensures.ok

pub returns-then-at-tx-3 : goal.returns-then-at-tx-3
returns-then-at-tx-3 c =
    let above = c.if-at-tx-2.false in
    let below = c.if-at-tx-3.true in
    subst (λ (l : List ℕ). IfOk c.format-then-at-tx-3.result (λ s. string_bytes s ≡ l)) (ring_text c.args.tx.count c.args.tx.entries c.args.at (omega (arith, above, below))) c.format-then-at-tx-3.ensures.ok

pub returns-then-at-tx-4 : goal.returns-then-at-tx-4
returns-then-at-tx-4 c =
    let above = c.if-at-tx-3.false in
    let below = c.if-at-tx-4.true in
    subst (λ (l : List ℕ). IfOk c.format-then-at-tx-4.result (λ s. string_bytes s ≡ l)) (complete_text c.args.tx.count c.args.tx.entries c.args.at (omega (arith, above)) (omega (arith, below))) c.format-then-at-tx-4.ensures.ok

pub returns-then-at-tx-5 : goal.returns-then-at-tx-5
returns-then-at-tx-5 c =
    let above = c.if-at-tx-4.false in
    let below = c.if-at-tx-5.true in
    subst (λ (l : List ℕ). IfOk c.format-then-at-tx-5.result (λ s. string_bytes s ≡ l)) (store_text c.args.tx.count c.args.tx.entries c.args.at (omega (arith, above, below))) c.format-then-at-tx-5.ensures.ok

pub returns-else-at-tx-5 : goal.returns-else-at-tx-5
returns-else-at-tx-5 c =
    let above = c.if-at-tx-5.false in
    subst (λ (l : List ℕ). IfOk c.format-else-at-tx-5.result (λ s. string_bytes s ≡ l)) (last_text c.args.tx.count c.args.tx.entries c.args.at (omega (arith, above))) c.format-else-at-tx-5.ensures.ok
