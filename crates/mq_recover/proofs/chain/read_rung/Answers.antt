use Rattle.std.proofs.Common.{◌≡◌, true, false, ℕ, Bool, max, inl, inr, Some, ap, ◌∙◌, sym, subst, arith}
use Rattle.std.proofs.lemmas.Bool.{cases_lt}
use Rattle.std.proofs.lemmas.Result.{err_from_is_err_and}
use Rattle.mq_recover.specs.Refusals.{RequestLimit, RungStopped, RungCommit, IsGreatest}
use Rattle.mq_recover.proofs.RefusalsChains.{request-entry, read-more, AreRead}
use Rattle.mq_recover.proofs.chain.read_rung.Goals as goal

pub returns-in_err-request-clause-refused : goal.returns-in_err-request-clause-refused
returns-in_err-request-clause-refused g c =
    let s = g.P.Port.state c.args.port.now in
    let inv = c.loop-at.invariant in
    let p = err_from_is_err_and c.from_residual.result c.from_residual.ensures.1 in
    rw (p.1, p.2) (RungStopped c.loop-at.at inv.low (omega (arith, c.loop-at-test.true, inv.end_is)) inv.read.rung (request-entry s c.loop-at.at c.in_err-request.field-0.0 c.in_err-request.ensures.refused))

pub returns-then-request-gt-LIMIT-clause-refused : goal.returns-then-request-gt-LIMIT-clause-refused
returns-then-request-gt-LIMIT-clause-refused g c =
    let inv = c.loop-at.invariant in
    let request = c.in_ok-request.request in
    RungStopped c.loop-at.at inv.low (omega (arith, c.loop-at-test.true, inv.end_is)) inv.read.rung (RequestLimit request.tx request.lba request.commit c.in_ok-request.ensures.ok (omega (arith, c.if-request-gt-LIMIT.true)))

pub loop-at-preserved : goal.loop-at-preserved
loop-at-preserved g c =
    let s = g.P.Port.state c.args.port.now in
    let inv = c.loop-at.invariant in
    let request = c.in_ok-request.request in
    let more_is : c.max-greatest.result ≡ max c.loop-at.greatest request.tx = grind (arith, c.max-greatest.ensures) in
    record {
      read = read-more s s.head c.loop-at.at c.loop-at.greatest c.max-greatest.result c.loop-at.whole request.tx request.lba request.commit inv.low inv.read c.in_ok-request.ensures.ok (omega (arith, c.if-request-gt-LIMIT.false)) more_is;
      low = omega (arith, inv.low);
      high = omega (arith, c.loop-at-test.true, inv.end_is);
      end_is = inv.end_is;
    }

pub returns-then-not-whole-clause-refused : goal.returns-then-not-whole-clause-refused
returns-then-not-whole-clause-refused g c =
    let s = g.P.Port.state c.args.port.now in
    let inv = c.loop-at.invariant in
    let all : c.loop-at.at ≡ s.doorbell = omega (arith, c.loop-at-test.false, inv.end_is, inv.high) in
    let read = subst (λ (n : ℕ). AreRead s s.head n c.loop-at.greatest c.loop-at.whole) all inv.read in
    elim (cases_lt s.head s.doorbell) [
      | inl some ↦
          let last = read.last some in
          RungCommit last.0 last.1 some read.rung (last.2 ∙ ap (λ (b : Bool). Some (last.0, last.1, b)) c.if-not-whole.true)
      | inr none ↦
          let is : c.loop-at.whole ≡ true = read.none (omega (arith, none)) in
          let both : true ≡ false = sym is ∙ c.if-not-whole.true in
          absurd cc
    ]

pub returns-clause-greatest : goal.returns-clause-greatest
returns-clause-greatest g c =
    let s = g.P.Port.state c.args.port.now in
    let inv = c.loop-at.invariant in
    let all : c.loop-at.at ≡ s.doorbell = omega (arith, c.loop-at-test.false, inv.end_is, inv.high) in
    subst (λ (n : ℕ). IsGreatest s s.head n c.loop-at.greatest) all inv.read.greatest_is
