use Rattle.std.proofs.Common.{◌≡◌, ◌+◌, ◌-◌, ◌<◌, [], length, false, drop, sym, ap, subst, ◌∙◌, arith}
use Rattle.std.proofs.lemmas.Bool.{eqb-true, eqb-false}
use Rattle.std.proofs.lemmas.List.{drop_all}
use Rattle.mq_blocks.specs.Drive.{holds_write}
use Rattle.mq_core.proofs.DriveHomeWrites.{none_at, last_at, none_left}
use Rattle.mq_core.proofs.port.last_write.Goals as goal
use Rattle.mq_core.proofs.port.last_write.Goals.{After-writes}

-- none stands behind the one that is looked at
behind : (c : After-writes) → holds_write c.args.lba (drop (c.loop-at.at - 1 + 1) c.args.begun.now) ≡ false
behind c =
    let e : c.loop-at.at ≡ c.loop-at.at - 1 + 1 = omega arith in
    subst (λ n. holds_write c.args.lba (drop n c.args.begun.now) ≡ false) e c.loop-at.invariant

pub loop-at-init : goal.loop-at-init
loop-at-init c = (let e : drop (length c.args.begun.now) c.args.begun.now ≡ [] = drop_all (length c.args.begun.now) c.args.begun.now (omega arith) in ap (holds_write c.args.lba) e)

pub loop-at-preserved : goal.loop-at-preserved
loop-at-preserved c =
    none_at c.args.lba (c.loop-at.at - 1) c.args.begun.now c.index-begun-at.result (omega arith) c.index-begun-at.is
    (eqb-false _ _ (sym c.writes.ensures ∙ c.if-writes.false)) (behind (goal.at.loop-at-preserved c).After-writes)

pub returns-then-writes-clause-some : goal.returns-then-writes-clause-some
returns-then-writes-clause-some c =
    let inside : c.loop-at.at - 1 < length c.args.begun.now = omega arith in (
      inside,
      last_at c.args.lba (c.loop-at.at - 1) c.args.begun.now c.index-begun-at.result inside c.index-begun-at.is (eqb-true _ _ (sym c.writes.ensures ∙ c.if-writes.true)) (behind (goal.at.returns-then-writes-clause-some c).After-writes),
    )

pub returns-clause-none : goal.returns-clause-none
returns-clause-none c =
    let e : c.loop-at.at ≡ 0 = omega arith in
    none_left c.args.lba c.args.begun.now (subst (λ n. holds_write c.args.lba (drop n c.args.begun.now) ≡ false) e c.loop-at.invariant)
