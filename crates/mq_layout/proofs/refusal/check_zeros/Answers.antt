use Rattle.std.proofs.Common.{◌∙◌, ap, sym, arith}
use Rattle.std.specs.Prelude.{Some}
use Rattle.mq_layout.specs.declared.refusal.LayoutRefusal.{LayoutRefusal}
use Rattle.mq_layout.proofs.FieldsZeros.{bytes-bad, bytes-end}
use Rattle.mq_layout.proofs.refusal.check_zeros.Goals as goal

pub returns-then-block-from-ne0 : goal.returns-then-block-from-ne0
returns-then-block-from-ne0 c =
    bytes-bad c.args.count c.args.from c.args.block.now c.loop-k.k c.loop-k-test.true c.loop-k.invariant c.if-block-from-ne0.true ∙ ap (λ (e : LayoutRefusal). Some e) (sym c.refused.ensures)

pub returns : goal.returns
returns c = bytes-end c.args.count c.args.from c.args.block.now (λ j s. c.loop-k.invariant j (omega arith))
