use Rattle.std.proofs.Common.{get_or, ◌≡◌, ◌≤◌, ◌∙◌, List, ℕ, sym, ap, subst, length, take}
use Rattle.mq_blocks.specs.Drive.{PortImage}
use Rattle.mq_blocks.specs.Geometry.{queues_of}
use Rattle.mq_image.specs.File.{DriveImage, namespace}
use Rattle.mq_image.proofs.File.{drive-sized}
use Rattle.mq_image.proofs.write.write_image_over.Goals as goal

pub write_ports-requires-clause-size : goal.write_ports-requires-clause-size
write_ports-requires-clause-size c =
    let g = c.image.inside.geometry in
    let root = c.index.result.now in
    let is : length (namespace g (take c.queues-queues.result c.deref.result.now) root) ≡ length (namespace c.args.image.now.geometry (take (queues_of c.args.image.now.geometry) c.args.image.now.ports) root) =
    ap (λ (n : ℕ). length (namespace g (take n c.deref.result.now) root)) c.queues-queues.ensures ∙ ap (λ (ps : List PortImage). length (namespace g (take (queues_of g) ps) root)) c.deref.ensures.value
    ∙ ap (λ (y : DriveImage). length (namespace y.geometry (take (queues_of y.geometry) y.ports) root)) c.image.view_is in
    let last = c.index.ensures ∙ ap (λ (n : ℕ). get_or c.image.inside.ports.items n root) c.queues-queues.ensures ∙ ap (λ (y : DriveImage). get_or y.ports (queues_of y.geometry) root) c.image.view_is in
    subst (λ (n : ℕ). n ≤ 294912) (sym is) (drive-sized c.args.image.now root c.requires last)
