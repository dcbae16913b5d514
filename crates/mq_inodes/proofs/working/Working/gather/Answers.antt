use Rattle.std.proofs.Common.{sym, ap, ◌∙◌, ℕ, ◌++◌, List, arith, drop, take, length}
use Rattle.mq_inodes.specs.Pages.{pages_of}
use Rattle.mq_inodes.proofs.Files.{bytes-drop, gathered-more}
use Rattle.mq_inodes.proofs.working.Working.gather.Goals as goal

pub loop-b-preserved : goal.loop-b-preserved
loop-b-preserved c =
    let pages = pages_of c.args.self.now in
    let more = bytes-drop pages c.args.blocks.now c.loop-b.b-index c.b-item.result c.bytes-page.result.now c.loop-b-test.true c.b-item.is (c.bytes-page.ensures.is ∙ c.held.ensures) in
    record {
      rest = gathered-more c.bytes-page.result.now _ c.loop-b.bytes.items _ _ c.loop-b.skip c.loop-b.left c.min-end.result (ap (λ (p : List ℕ). length p) c.bytes-page.ensures.is ∙ c.bytes-page.ensures.whole) c.loop-b.invariant.skips c.min-end.ensures
          c.in_ok-extend_from_slice.ensures.items (ap (λ (xs : List ℕ). c.loop-b.bytes.items ++ take c.loop-b.left (drop c.loop-b.skip xs)) (sym more) ∙ c.loop-b.invariant.rest);
      skips = omega arith;
      few = (let f = c.loop-b.invariant.few in omega arith);
    }
