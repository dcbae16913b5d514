use Rattle.std.proofs.Common.{ℕ, subst}
use Rattle.mq_blocks.specs.declared.geometry.Geometry.{Geometry}
use Rattle.mq_journal.specs.Numbers.{Seat}
use Rattle.mq_kv_entries.specs.declared.entry.KvEntry.{KvEntry}
use Rattle.mq_kv_run.specs.Played.{HasPlayedStore}
use Rattle.mq_turns.specs.AtDesk.{start_of, view}
use Rattle.mq_kv_run.proofs.storing.run_store.Goals as goal

pub returns-clause-ok : goal.returns-clause-ok
returns-clause-ok g c =
    let state = g.P.Port.state in
    let faults = g.P.Port.faults in
    let store = c.in_ok-store.store in
    let session = c.in_ok-store.session in
    let opening = start_of store.desk in
    let new = c.in_ok-store.ensures.session.1 in
    let end = c.in_ok-play_store.field-0 in
    let groups = c.args.groups.now in
    let finish = c.args.finish in
    let run = c.in_ok-play_store.ensures in
    let own = subst (λ (h : Geometry). HasPlayedStore g.P.Port state faults h opening session.queue (view session.chair) groups finish end) c.in_ok-store.ensures.geometry run in
    let first = subst (λ (q : ℕ). HasPlayedStore g.P.Port state faults c.args.geometry opening q (view session.chair) groups finish end) new.queue_is own in
    record {
      opening = opening;
      opened = c.in_ok-store.ensures.desk;
      formed = c.in_ok-store.ensures.formed;
      run = subst (λ (v : Seat g.row.P.Denot KvEntry g.P.Port). HasPlayedStore g.P.Port state faults c.args.geometry opening 0 v groups finish end) new.view_is first;
    }
