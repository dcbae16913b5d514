use Rattle.std.proofs.Common.{◌≡◌, ◌+◌, ◌<◌, ◌∷◌, ◌&&◌, [], length, get_or, sym, ap, subst, ◌∙◌, arith, length-append}
use Rattle.mq_blocks.specs.Journal.{is_among}
use Rattle.mq_loose.specs.Rows.{flag_of, is_past}
use Rattle.mq_loose.specs.declared.machine.rows.LooseRow.{LooseRow}
use Rattle.mq_loose.proofs.Flags.{AreFlags, flags_more}
use Rattle.mq_loose.proofs.RowLists.{length-rows}
use Rattle.mq_loose_order.specs.Dependence.{all_in}
use Rattle.mq_loose_queues.specs.Rings.{ports_in}
use Rattle.mq_loose_queues.proofs.settled.refresh.Goals as goal

pub loop-row-init : goal.loop-row-init
loop-row-init g c =
    let none : length c.clear.new.self.items ≡ 0 = ap length c.clear.ensures.items in
    let same = c.clear.ensures.capacity in
    record {
      count = none;
      room = omega (arith, same, c.requires.room);
      kept = omega (arith, same);
      each = λ starts h k is n low high. absurd (omega (arith, low, high, none));
    }

pub row_flag-flag-requires-clause-queue : goal.row_flag-flag-requires-clause-queue
row_flag-flag-requires-clause-queue g c =
    let inside : c.loop-row.row-index < length c.args.rows.now = omega arith in
    subst (λ (r : LooseRow). r.queue < length c.args.sides.now) (sym c.row-item.is) (c.requires.rows.queue c.loop-row.row-index c.row-item.result inside)

pub row_flag-flag-requires-clause-rings : goal.row_flag-flag-requires-clause-rings
row_flag-flag-requires-clause-rings g c = c.requires.rings

pub row_flag-flag-requires-clause-deps : goal.row_flag-flag-requires-clause-deps
row_flag-flag-requires-clause-deps g c = λ n among.
    let inside : c.loop-row.row-index < length c.args.rows.now = omega arith in
    let low = c.requires.rows.deps c.loop-row.row-index n c.row-item.result inside (ap (λ (r : LooseRow). is_among n r.deps) (sym c.row-item.is) ∙ among) in
    let long = ap length c.deref.ensures.value in
    (low.0, omega (arith, low.1, long, c.loop-row.invariant.count))

pub push_reserved-requires : goal.push_reserved-requires
push_reserved-requires g c = omega (arith, c.loop-row.flags.ok.0, c.loop-row.invariant.count, c.loop-row.invariant.room)

pub loop-row-preserved : goal.loop-row-preserved
loop-row-preserved g c =
    let count = c.loop-row.invariant.count in
    let ports = ports_in g.P.Port.state c.args.sides.now in
    let inside : c.loop-row.row-index < length c.args.rows.now = omega arith in
    let more = c.push_reserved.ensures.items in
    let same = c.push_reserved.ensures.capacity in
    record {
      count = ap length more ∙ length-append c.loop-row.flags.items (c.row_flag-flag.result ∷ []) ∙ ap (λ n. n + 1) count;
      room = omega (arith, same, c.loop-row.invariant.room);
      kept = omega (arith, same, c.loop-row.invariant.kept);
      each = λ starts h k is.
          let read : c.row-item.result ≡ get_or c.args.rows.now (length c.loop-row.flags.items) c.row-item.result = c.row-item.is ∙ ap (λ n. get_or c.args.rows.now n c.row-item.result) (sym count) in
          subst (λ flags. AreFlags c.args.base starts ports h flags) (sym more)
          (flags_more c.args.base starts ports h c.args.rows.now c.loop-row.flags.items c.row_flag-flag.result c.row-item.result k is (omega (arith, count, inside)) read (c.row_flag-flag.ensures ∙ ap (λ fs. is_past c.row-item.result ports && all_in (flag_of c.args.base fs) c.row-item.result.deps) c.deref.ensures.value) (c.loop-row.invariant.each starts h k is));
    }

pub returns-clause-flags : goal.returns-clause-flags
returns-clause-flags g c starts h k is =
    let count = c.loop-row.invariant.count in
    let rows = length-rows c.args.base starts h c.args.rows.now is in
    let long : length c.loop-row.flags.items ≡ length h = omega (arith, count, rows) in
    (long, λ n low high. c.loop-row.invariant.each starts h k is n low (omega (arith, long, high)))

pub returns-clause-room : goal.returns-clause-room
returns-clause-room g c = c.loop-row.invariant.kept
