use Rattle.std.proofs.Common.{◌≡◌, ◌&&◌, true, false, sym, ap, ◌∙◌, arith}
use Rattle.mq_blocks.specs.Journal.{is_among}
use Rattle.mq_loose.specs.Rows.{flag_of, is_past}
use Rattle.mq_loose_order.specs.Dependence.{all_in}
use Rattle.mq_loose_queues.specs.Rings.{ports_in}
use Rattle.mq_loose_queues.proofs.settled.row_flag.Goals as goal

pub is_row_done-requires-clause-queue : goal.is_row_done-requires-clause-queue
is_row_done-requires-clause-queue g c = c.requires.queue

pub is_row_done-requires-clause-rings : goal.is_row_done-requires-clause-rings
is_row_done-requires-clause-rings g c = c.requires.rings

pub are_flagged-requires : goal.are_flagged-requires
are_flagged-requires g c = λ n among.
    let low = c.requires.deps n (ap (is_among n) (sym c.as_slice.ensures) ∙ among) in
    (omega (arith, low.0, c.base.view_is), omega (arith, low.1, c.base.view_is))

pub returns-then-is_row_done : goal.returns-then-is_row_done
returns-then-is_row_done g c =
    let flags = c.args.flags.now in
    let deps = c.args.row.now.deps in
    let past : is_past c.args.row.now (ports_in g.P.Port.state c.args.sides.now) ≡ true = sym c.is_row_done.ensures ∙ c.if-is_row_done.true in
    c.are_flagged.ensures ∙ (λ i. all_in (flag_of (c.base.view_is i) flags) (c.as_slice.ensures i)) ∙ ap (λ t. t && all_in (flag_of c.args.base flags) deps) (sym past)

pub returns-else-is_row_done : goal.returns-else-is_row_done
returns-else-is_row_done g c =
    let past : is_past c.args.row.now (ports_in g.P.Port.state c.args.sides.now) ≡ false = sym c.is_row_done.ensures ∙ c.if-is_row_done.false in
    c.if-is_row_done.false ∙ ap (λ t. t && all_in (flag_of c.args.base c.args.flags.now) c.args.row.now.deps) (sym past)
