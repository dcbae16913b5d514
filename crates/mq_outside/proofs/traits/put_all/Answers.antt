use Rattle.std.proofs.Common.{◌≤◌, ◌-◌, arith, ◌∙◌, ap, length, drop, length-take, length-drop, take}
use Rattle.mq_outside.specs.Outside.{appended}
use Rattle.mq_outside.proofs.OutsideLemmas.{appended-more}
use Rattle.mq_outside.proofs.traits.put_all.Goals as goal

pub loop-at-preserved : goal.loop-at-preserved
loop-at-preserved g c =
    let n = c.in_ok-at.field-0 in
    let at = c.loop-at.at in
    let bytes = c.args.bytes.now in
    let short = simp (length-take, length-drop) at (c.in_ok-at.ensures.some.1) in
    let fits : n ≤ length bytes - at = omega (arith, short) in
    record {
      within = omega (arith, fits, c.loop-at.invariant.within);
      wrote = c.in_ok-at.ensures.wrote
          ∙ ap (λ w. appended w (take n (take (length bytes - at) (drop at bytes)))) c.loop-at.invariant.wrote
          ∙ appended-more at n (length bytes - at) bytes (g.K.Sink.state c.args.sink.now).contents fits;
      cause = c.in_ok-at.ensures.cause ∙ c.loop-at.invariant.cause;
    }
