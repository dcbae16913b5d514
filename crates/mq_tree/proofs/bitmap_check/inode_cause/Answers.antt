use Rattle.std.proofs.Common.{ap, get_or, subst, sym, ◌∙◌, ◌+◌, Option, ℕ}
use Rattle.std.specs.Prelude.{nat_eq, not}
use Rattle.std.proofs.lemmas.Bool.{eq-eqb, ne_eqb}
use Rattle.std.proofs.lemmas.List.{get_or_default}
use Rattle.mq_layout.specs.Empty.{free_inode}
use Rattle.mq_layout.specs.declared.inode.Inode.{Inode}
use Rattle.mq_tree.specs.declared.corrupt.CorruptCause.{CorruptCause}
use Rattle.mq_tree.proofs.Marks.{HasCause, bit-clear, bit-more, bit-right}
use Rattle.mq_tree.proofs.Parts.{agree, differ}
use Rattle.mq_tree.proofs.bitmap_check.inode_cause.Goals as goal
use Rattle.mq_tree.proofs.bitmap_check.inode_cause.Goals.{then-bit-is_used+else-is_used, else-bit-is_used}

pub returns-then-is_used : goal.returns-then-is_used
returns-then-is_used c =
    let is_used = λ (k : ℕ). not (nat_eq (get_or c.args.inodes.now k free_inode).kind 0) in
    let at = ap (λ (n : Inode). not (nat_eq n.kind 0)) (get_or_default c.args.inodes.now c.loop-i.i _ free_inode c.loop-i-test.true) in
    bit-clear c.args.block.now is_used _ c.loop-i.i c.bit.result c.loop-i-test.true c.bit.ensures (λ e. differ _ _ c.if-bit-is_used.true (e ∙ sym at)) (sym at ∙ ap not (ne_eqb _ 0 c.if-is_used.true))

pub loop-i-preserved : goal.loop-i-preserved
loop-i-preserved c =
    let is_used = λ (k : ℕ). not (nat_eq (get_or c.args.inodes.now k free_inode).kind 0) in
    let at = ap (λ (n : Inode). not (nat_eq n.kind 0)) (get_or_default c.args.inodes.now c.loop-i.i _ free_inode c.loop-i-test.true) in
    elim c.if-bit-is_used.branch [
      | then-bit-is_used+else-is_used w ↦
          subst (λ (o : Option CorruptCause). HasCause c.args.block.now is_used (c.loop-i.i + 1) o) (sym w.cause-is) (bit-more c.args.block.now is_used c.loop-i.i c.loop-i.cause c.bit.result c.loop-i.invariant c.bit.ensures (λ e. differ _ _ w.if-bit-is_used.true (e ∙ sym at)) (sym at ∙ ap not (eq-eqb _ 0 w.if-is_used.false)))
      | else-bit-is_used w ↦
          subst (λ (o : Option CorruptCause). HasCause c.args.block.now is_used (c.loop-i.i + 1) o) (sym w.cause-is) (bit-right c.args.block.now is_used c.loop-i.i c.loop-i.cause c.bit.result c.loop-i.invariant c.bit.ensures (agree _ _ w.if-bit-is_used.false ∙ at))
    ]
