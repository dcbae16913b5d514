use Rattle.std.proofs.Common.{get_or, set, map, sym, ◌∙◌, ap, subst, arith}
use Rattle.std.proofs.lemmas.List.{length-map}
use Rattle.std.proofs.lemmas.Result.{err_from_is_err_and}
use Rattle.mq_recover.specs.RecoverHomes.{CanMove, AreCutMoves}
use Rattle.mq_recover.proofs.DrivesPortRows.{IsNextHead, next-head, head-moved, head-cut, head-cause, head-same, on-err}
use Rattle.mq_recover.proofs.homes.move_heads.Goals as goal

pub move_head-requires : goal.move_head-requires
move_head-requires g c =
    let state = g.P.Port.state in
    let xs = c.loop-queue.queue-items in
    let q = c.loop-queue.queue-index in
    let x = get_or xs q c.queue-item.result in
    let olds = map state c.args.queues.now in
    let next : IsNextHead state olds xs q x = record {
      at = record { within = omega arith; is = ap (get_or xs q) c.queue-item.is };
      long = c.loop-queue.auto.queue-items ∙ sym (length-map c.args.queues.now state);
      moved = c.loop-queue.invariant.moved;
    } in
    subst CanMove (sym (next-head state olds xs q x next)) (c.requires q (omega arith))

pub returns-in_err-move_head-clause-cut : goal.returns-in_err-move_head-clause-cut
returns-in_err-move_head-clause-cut g c =
    let state = g.P.Port.state in
    let xs = c.loop-queue.queue-items in
    let q = c.loop-queue.queue-index in
    let x = get_or xs q c.queue-item.result in
    let y = c.move_head.new.queue in
    let olds = map state c.args.queues.now in
    let next : IsNextHead state olds xs q x = record {
      at = record { within = omega arith; is = ap (get_or xs q) c.queue-item.is };
      long = c.loop-queue.auto.queue-items ∙ sym (length-map c.args.queues.now state);
      moved = c.loop-queue.invariant.moved;
    } in
    on-err c.from_residual.result (AreCutMoves olds (map state (set xs q y))) (head-cut state olds xs q x y next c.in_err-move_head.ensures.cut)

pub returns-in_err-move_head-clause-cause : goal.returns-in_err-move_head-clause-cause
returns-in_err-move_head-clause-cause g c =
    let p = err_from_is_err_and c.from_residual.result c.from_residual.ensures.1 in
    let xs = c.loop-queue.queue-items in
    let q = c.loop-queue.queue-index in
    head-cause g.P.Port.faults c.args.queues.now xs q (get_or xs q c.queue-item.result) c.move_head.new.queue c.from_residual.result _ (record { within = omega arith; is = ap (get_or xs q) c.queue-item.is })
    c.loop-queue.invariant.faults c.in_err-move_head.ensures.cause p.1

pub loop-queue-preserved : goal.loop-queue-preserved
loop-queue-preserved g c =
    let state = g.P.Port.state in
    let xs = c.loop-queue.queue-items in
    let q = c.loop-queue.queue-index in
    let x = get_or xs q c.queue-item.result in
    let y = c.move_head.new.queue in
    let olds = map state c.args.queues.now in
    let next : IsNextHead state olds xs q x = record {
      at = record { within = omega arith; is = ap (get_or xs q) c.queue-item.is };
      long = c.loop-queue.auto.queue-items ∙ sym (length-map c.args.queues.now state);
      moved = c.loop-queue.invariant.moved;
    } in
    record {
      moved = head-moved state olds xs q x y next c.in_ok-move_head.ensures.ok;
      faults = head-same g.P.Port.faults c.args.queues.now xs q x y next.at c.loop-queue.invariant.faults c.in_ok-move_head.ensures.cause;
    }
