use Rattle.std.proofs.Common.{◌≡◌, ◌∙◌, Err, subst}
use Rattle.mq_loose_queues.specs.Drains.{IsDrainOf}
use Rattle.mq_queue_side.specs.declared.answers.Cause.{Cause}
use Rattle.mq_queue_side.specs.declared.answers.Cause.TheVariants as cause
use Rattle.mq_loose_run.specs.Lines.{queues_state}
use Rattle.mq_loose_run.proofs.Results.{drain_stops, power_alone, queue_clean}
use Rattle.mq_loose_run.proofs.lines.drain.Goals as goal

pub only_off-requires : goal.only_off-requires
only_off-requires c =
    let d = c.in-Err.ensures in
    power_alone (queues_state c.args.queues.now) (queues_state c.drain.new.self) c.args.queue c.in-Err.cause c.requires.quiet (queue_clean c.drain.new.self.parts c.args.queue (d.drains.bound.fail ∙ c.requires.quiet.fail)) d

pub returns-in-Err : goal.returns-in-Err
returns-in-Err c =
    let d = c.in-Err.ensures in
    let is : c.in-Err.cause ≡ cause.Off = power_alone (queues_state c.args.queues.now) (queues_state c.drain.new.self) c.args.queue c.in-Err.cause c.requires.quiet (queue_clean c.drain.new.self.parts c.args.queue (d.drains.bound.fail ∙ c.requires.quiet.fail)) d in
    drain_stops (Unit {0}) (queues_state c.args.queues.now) (queues_state c.drain.new.self) c.args.queue c.only_off.result c.only_off.ensures
    (subst (λ (e : Cause). IsDrainOf (queues_state c.args.queues.now) c.args.queue (Err e) (queues_state c.drain.new.self)) is d)
