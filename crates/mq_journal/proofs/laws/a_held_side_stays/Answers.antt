use Rattle.mq_journal.proofs.LawsKeeping.{numbered_stays, prepared_stays, stays_at_give_back, stays_at_reads, stays_at_take}
use Rattle.mq_journal.proofs.laws.a_held_side_stays.Goals as goal

pub returns : goal.returns
returns g c =
    let state = g.P.Port.state in
    let faults = g.P.Port.faults in
    let group = g.G.Groups.group in
    let s = c.args.side.now in
    record {
      take = stays_at_take state faults group s;
      back = stays_at_give_back state faults group s;
      reads = stays_at_reads state faults group s;
      prepared = prepared_stays state faults group s;
      numbered = numbered_stays state faults group s;
    }
