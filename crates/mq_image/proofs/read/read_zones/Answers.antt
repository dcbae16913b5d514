use Rattle.std.proofs.Common.{List, ℕ, ◌≡◌, ◌≤◌, ◌<◌, ◌∙◌, ◌+◌, ◌*◌, length, refl, sym, subst, arith}
use Rattle.std.proofs.Math.Nat.{mul-le-mul_right}
use Rattle.std.proofs.lemmas.Result.{err_from_is_err_and}
use Rattle.mq_blocks.specs.Drive.{PortImage}
use Rattle.mq_blocks.specs.Geometry.{queues_of, zone_size}
use Rattle.mq_image.specs.Reads.{AreZonesRead}
use Rattle.mq_image.proofs.PlacesNexts.{refuses-along}
use Rattle.mq_image.proofs.ReadsZones.{zones-none, zones-more}
use Rattle.mq_image.proofs.read.read_zones.Goals as goal

pub loop-queue-init : goal.loop-queue-init
loop-queue-init c = zones-none _ _ _ _ _ c.requires.areas c.requires.inside

pub span-requires-clause-inside : goal.span-requires-clause-inside
span-requires-clause-inside c = c.loop-queue.invariant.span.inside

pub span-requires-clause-more : goal.span-requires-clause-more
span-requires-clause-more c =
    let v = c.loop-queue.invariant in
    let l = v.span.lba in
    let z = v.span.size in
    let b = v.size in
    let f = c.requires.few in
    let more = c.requires.more in
    let n : c.loop-queue.queue + 1 ≤ queues_of c.args.header.now.geometry = omega arith in
    let m : (c.loop-queue.queue + 1) * zone_size c.args.header.now.geometry ≤ queues_of c.args.header.now.geometry * zone_size c.args.header.now.geometry = mul-le-mul_right (zone_size c.args.header.now.geometry) n in
    let e : (c.loop-queue.queue + 1) * zone_size c.args.header.now.geometry ≡ c.loop-queue.queue * zone_size c.args.header.now.geometry + zone_size c.args.header.now.geometry = omega arith in
    omega arith

pub add_zone-requires : goal.add_zone-requires
add_zone-requires c = let n = c.loop-queue.invariant.count_is in omega arith

pub returns-in_err-zone : goal.returns-in_err-zone
returns-in_err-zone c =
    let p = err_from_is_err_and c.from_residual.result c.from_residual.ensures.1 in
    rw (p.1, p.2) (refuses-along _ _ _ c.loop-queue.invariant.span.fault c.in_err-zone.ensures.gives)

pub loop-queue-preserved : goal.loop-queue-preserved
loop-queue-preserved c =
    let n = c.loop-queue.invariant.count_is in
    let l : c.loop-queue.queue < length c.loop-queue.ports.items = omega arith in
    subst (λ (ps : List PortImage). AreZonesRead c.args.header.now.version c.args.header.now.geometry c.args.file.now (c.loop-queue.queue + 1) c.args.place.now c.span.new.self c.args.ports.now.items ps) (sym c.in_ok-add_zone.ensures.ports)
    (zones-more c.args.header.now.version c.args.header.now.geometry c.args.file.now c.loop-queue.queue _ _ _ c.args.ports.now.items c.loop-queue.ports.items _ _ l refl c.loop-queue.invariant c.in_ok-zone.ensures.gives (c.in_ok-zone.ensures.count ∙ c.zone.ensures))

pub returns : goal.returns
returns c =
    let n = c.loop-queue.invariant.count_is in
    let f = c.requires.few in
    let e : c.loop-queue.queue ≡ queues_of c.args.header.now.geometry = omega arith in
    subst (λ (k : ℕ). AreZonesRead c.args.header.now.version c.args.header.now.geometry c.args.file.now k c.args.place.now c.loop-queue.place c.args.ports.now.items c.loop-queue.ports.items) e c.loop-queue.invariant
