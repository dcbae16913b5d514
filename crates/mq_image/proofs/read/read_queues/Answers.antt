use Rattle.std.proofs.Common.{ℕ, subst, ◌≡◌, ◌≤◌, ◌+◌, ◌*◌, arith}
use Rattle.std.proofs.Math.Nat.{mul-le-mul_right}
use Rattle.std.proofs.lemmas.Result.{err_from_is_err_and}
use Rattle.mq_blocks.specs.Geometry.{queues_of, area_of}
use Rattle.mq_image.specs.Reads.{AreAreasRead}
use Rattle.mq_image.proofs.PlacesNexts.{refuses-along}
use Rattle.mq_image.proofs.ReadsAreas.{areas-none, areas-more}
use Rattle.mq_image.proofs.Versions.{rings-low}
use Rattle.mq_image.proofs.read.read_queues.Goals as goal

pub loop-queue-init : goal.loop-queue-init
loop-queue-init c = areas-none _ _ _ _ _ c.in_ok-ports.ensures.items c.requires.inside

pub read_port-requires : goal.read_port-requires
read_port-requires c =
    let v = c.loop-queue.invariant in
    let l = v.span.lba in
    let z = v.span.size in
    let b = v.blocks in
    let q = c.queues-queues.ensures in
    let rings = c.requires.rings in
    let more = c.requires.more in
    let n : c.loop-queue.queue + 1 ≤ queues_of c.args.header.now.geometry = omega arith in
    let m : (c.loop-queue.queue + 1) * area_of c.args.header.now.geometry ≤ queues_of c.args.header.now.geometry * area_of c.args.header.now.geometry = mul-le-mul_right (area_of c.args.header.now.geometry) n in
    let e : (c.loop-queue.queue + 1) * area_of c.args.header.now.geometry ≡ c.loop-queue.queue * area_of c.args.header.now.geometry + area_of c.args.header.now.geometry = omega arith in
    let q16 = c.args.header.now.geometry.queues_high in
    let low = rings-low c.args.header.now.version c.loop-queue.queue (queues_of c.args.header.now.geometry) (omega arith) in
    record { few = omega arith; room = omega arith; inside = v.span.inside; more = omega arith }

pub returns-in_err-read_port : goal.returns-in_err-read_port
returns-in_err-read_port c =
    let p = err_from_is_err_and c.from_residual-in_err-read_port.result c.from_residual-in_err-read_port.ensures.1 in
    rw (p.1, p.2) (refuses-along _ _ _ c.loop-queue.invariant.span.fault c.in_err-read_port.ensures)

pub loop-queue-preserved : goal.loop-queue-preserved
loop-queue-preserved c = areas-more _ _ _ _ _ _ _ _ _ _ c.in_ok-push.ensures.items c.loop-queue.invariant c.in_ok-read_port.ensures

pub returns : goal.returns
returns c = let q = c.queues-queues.ensures in let e : c.loop-queue.queue ≡ queues_of c.args.header.now.geometry = omega arith in subst (λ (n : ℕ). AreAreasRead c.args.header.now.version c.args.header.now.geometry c.args.file.now n c.args.place.now c.loop-queue.place c.loop-queue.ports.items) e c.loop-queue.invariant
