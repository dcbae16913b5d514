use Rattle.std.proofs.Common.{◌≡◌, ◌<◌, inl, inr, None, ◌∙◌, ap, arith, sym}
use Rattle.std.proofs.lemmas.Result.{err_from_is_err_and}
use Rattle.std.specs.Option.{unwrap_or}
use Rattle.mq_blocks.specs.Descriptor.{Descriptor}
use Rattle.mq_area.specs.declared.descriptor.PlaceIs.TheVariants.{Index}
use Rattle.mq_recover.specs.Refusals.{ChainStopped, before_where, block_where, expected}
use Rattle.mq_recover.proofs.RefusalsChains.{found-more, found-as}
use Rattle.mq_recover.proofs.chain.follow_from.Goals as goal

pub returns-in_err-next-clause-refused : goal.returns-in_err-next-clause-refused
returns-in_err-next-clause-refused g c =
    let p = err_from_is_err_and c.from_residual-in_err-next.result c.from_residual-in_err-next.ensures.1 in
    let above : c.args.base < c.loop-number.number = omega (arith, c.loop-number-test.true, c.base.view_is) in
    rw (p.1, p.2) (elim c.in_err-next.ensures.refused [
      | inl x ↦ inl x
      | inr x ↦ inr (ChainStopped c.args.index c.loop-number.transactions.items c.loop-number.number c.loop-number.place c.loop-number.newest c.requires.above c.requires.index c.loop-number.invariant.found above x)
    ])

pub loop-number-preserved : goal.loop-number-preserved
loop-number-preserved g c =
    let s = g.P.Port.state c.args.port.now in
    let above : c.args.base < c.loop-number.number = omega (arith, c.loop-number-test.true, c.base.view_is) in
    let d : Descriptor = c.in_ok-next.next in
    let number_is : d.prev_number ≡ c.next.inside.prev_number = ap (λ (x : Descriptor). x.prev_number) (sym c.next.view_is) in
    let place_is : d.prev_place ≡ c.next.inside.prev_place = ap (λ (x : Descriptor). x.prev_place) (sym c.next.view_is) in
    let newest_is : unwrap_or c.loop-number.newest d.place ≡ c.unwrap_or.result =
    ap (λ (x : Descriptor). unwrap_or c.loop-number.newest x.place) (sym c.next.view_is) ∙ sym c.unwrap_or.ensures in
    let good = c.obeys.ensures.good c.args.geometry (expected c.args.queue c.loop-number.number c.loop-number.place) (block_where c.args.geometry s c.loop-number.place) (before_where c.args.geometry s c.loop-number.place) d c.in_ok-next.ensures.ok.0 in
    let falls = good.falls in
    let high = good.number in
    record {
      fits = omega (arith, number_is, falls, high);
      found =
          found-as g.D.Descriptors.accepts c.args.geometry s c.args.queue c.args.base c.args.start.number (Index c.args.index) None c.loop-number.transactions.items c.push.new.self.items d d.prev_number c.next.inside.prev_number d.prev_place c.next.inside.prev_place (unwrap_or c.loop-number.newest d.place) c.unwrap_or.result
          c.in_ok-push.ensures.items number_is place_is newest_is
          (found-more g.D.Descriptors.accepts c.args.geometry s c.args.queue c.args.base c.args.start.number (Index c.args.index) None c.loop-number.transactions.items c.loop-number.number c.loop-number.place c.loop-number.newest d c.loop-number.invariant.found above c.in_ok-next.ensures.ok);
    }
