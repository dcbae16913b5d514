use Rattle.std.proofs.Common.{◌∙◌, ap, sym, arith}
use Rattle.std.specs.Prelude.{Some}
use Rattle.mq_layout.specs.declared.refusal.LayoutRefusal.{LayoutRefusal}
use Rattle.mq_layout.proofs.FieldsZeros.{nonzero-at, nonzero-none}
use Rattle.mq_layout.proofs.refusal.check_no_pointers.Goals as goal

pub returns-then-u32_at-ne0 : goal.returns-then-u32_at-ne0
returns-then-u32_at-ne0 c =
    nonzero-at 4 c.args.count c.args.from c.args.block.now c.loop-k.k c.loop-k-test.true c.loop-k.invariant (λ z. c.if-u32_at-ne0.true (c.u32_at.ensures ∙ z)) ∙ ap (λ (e : LayoutRefusal). Some e) (sym c.refused.ensures)

pub returns : goal.returns
returns c = nonzero-none 4 c.args.count c.args.from c.args.block.now (λ j s. c.loop-k.invariant j (omega arith))
