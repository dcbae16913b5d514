use Rattle.std.proofs.Common.{rules, arith, ◌≡◌, ◌+◌, ◌-◌, suc, ap, ◌∙◌}
use Rattle.mq_turns.specs.Words.{after_clear}
use Rattle.mq_turns.specs.AtDesk.{view}
use Rattle.mq_turns.proofs.desk.Desk.clear.Goals as goal

pub returns-clause-cleared : goal.returns-clause-cleared
returns-clause-cleared g c =
    let t = c.clear.ensures.cleared in
    let same : c.queue.inside.0 ≡ c.args.queue = search rules in
    let slots : c.slot_count.result ≡ c.args.self.now.table.shared.table_id.slots = search rules in
    let q : c.slot_count.result + 1 + c.queue.inside.0 - suc c.args.self.now.table.shared.table_id.slots ≡ c.args.queue = omega arith in
    (t.0, ap (λ m. m.0) t.1 ∙ ap (λ n. after_clear n c.args.low t.0 (view c.args.chair.now)) q, t.2)
