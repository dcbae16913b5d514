use Rattle.std.proofs.Common.{refl}
use Rattle.mq_image.specs.File.{image_bytes, queue_ports, root_port}
use Rattle.mq_image.proofs.FaultsGeometries.{some_shape}
use Rattle.mq_image.proofs.FileForms.{formed-drive, formed-good, read-formed}
use Rattle.mq_image.proofs.laws.written_images_are_read.Goals as goal

pub returns-clause-fault : goal.returns-clause-fault
returns-clause-fault c x h w = formed-good 2 (queue_ports x) (root_port x) x (image_bytes x) (formed-drive x h w)

pub returns-clause-same : goal.returns-clause-same
returns-clause-same c x y h w r = read-formed 2 (queue_ports x) (root_port x) x y (image_bytes x) (formed-drive x h w) r

pub returns-clause-first : goal.returns-clause-first
returns-clause-first c file = let s = some_shape file in (_, record { shape = s.0; has = s.1; is = refl })
