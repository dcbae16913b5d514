use Rattle.mq_image_ops.proofs.Empty.{blank-more}
use Rattle.mq_image_ops.proofs.format.blank_queues.Goals as goal

pub loop-q-preserved : goal.loop-q-preserved
loop-q-preserved c = blank-more c.args.geometry c.loop-q.q c.loop-q.ports.items c.push.new.self.items _ c.loop-q.invariant c.in_ok-push.ensures.items (c.in_ok-blank_queue.ensures c.loop-q.q)
