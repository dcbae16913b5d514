use Rattle.mq_recover.specs.Drives.{drive_of, view_over}
use Rattle.mq_image_ops.proofs.DumpChains.{queues-none, queues-put}
use Rattle.mq_image_ops.proofs.dump.put_queues.Goals as goal

pub loop-queue-init : goal.loop-queue-init
loop-queue-init g c = λ chains whole. queues-none (view_over c.args.geometry (drive_of g.P.Port.state c.args.ports.now)) chains c.args.text.now.items

pub loop-queue-preserved : goal.loop-queue-preserved
loop-queue-preserved g c = λ chains whole.
    queues-put (view_over c.args.geometry (drive_of g.P.Port.state c.args.ports.now)) chains c.loop-queue.queue c.args.text.now.items c.loop-queue.text.items c.put_queue.new.text.items (c.loop-queue.invariant chains whole) (c.in_ok-put_queue.ensures chains whole)
