use Rattle.std.proofs.Common.{◌≡◌, ◌≤◌}
use Rattle.mq_recover.proofs.RefusalsChains.{AreRead}
use Rattle.mq_recover.proofs.chain.read_rung.Given as goal

-- the entries so far were read
abbrev pub invariant-loop-at : goal.invariant-loop-at
invariant-loop-at g l =
    let s = g.P.Port.state l.port in
    record {
      read : AreRead s s.head l.at l.greatest l.whole;
      low : s.head ≤ l.at;
      high : l.at ≤ s.doorbell;
      end_is : l.at-end ≡ s.doorbell;
    }
