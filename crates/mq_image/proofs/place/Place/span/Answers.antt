use Rattle.std.proofs.Common.{List, length, subst, ◌+◌, ◌∙◌, ℕ, sym, ap, arith}
use Rattle.std.specs.Prelude.{Option}
use Rattle.std.proofs.lemmas.List.{length_push}
use Rattle.std.proofs.lemmas.Result.{err_from_is_err_and}
use Rattle.mq_image.specs.Places.{IsSpan}
use Rattle.mq_image.proofs.PlacesNexts.{refuses-along}
use Rattle.mq_image.proofs.PlacesSpans.{span-none, span-more}
use Rattle.mq_image.proofs.place.Place.span.Goals as goal

pub loop-block-init : goal.loop-block-init
loop-block-init c = record {
  count = ap length c.in_ok-blocks.ensures.items;
  span = subst (λ (bs : List (Option (List ℕ))). IsSpan c.args.file.now c.args.self.now c.args.self.now bs) (sym c.in_ok-blocks.ensures.items) (span-none _ _ c.requires.inside);
}

pub next-requires-clause-inside : goal.next-requires-clause-inside
next-requires-clause-inside c = c.loop-block.invariant.span.inside

pub next-requires-clause-more : goal.next-requires-clause-more
next-requires-clause-more c =
    let s = c.loop-block.invariant.span in
    let l = s.lba in
    let z = s.size in
    let n = c.loop-block.invariant.count in
    let m = c.requires.more in
    omega arith

pub returns-in_err-next-clause-gives : goal.returns-in_err-next-clause-gives
returns-in_err-next-clause-gives c =
    let p = err_from_is_err_and c.from_residual-in_err-next.result c.from_residual-in_err-next.ensures.1 in
    rw (p.1, p.2) (refuses-along _ _ _ c.loop-block.invariant.span.fault c.in_err-next.ensures)

pub loop-block-preserved : goal.loop-block-preserved
loop-block-preserved c =
    let n = c.loop-block.invariant.count in record {
      count = ap length c.in_ok-push.ensures.items ∙ length_push c.loop-block.blocks.items _ ∙ ap (λ (k : ℕ). k + 1) n;
      span =
          subst (λ (bs : List (Option (List ℕ))). IsSpan c.args.file.now c.args.self.now c.next.new.self bs) (sym c.in_ok-push.ensures.items)
          (span-more _ _ _ _ _ _ c.loop-block.invariant.span c.in_ok-next.ensures);
    }
