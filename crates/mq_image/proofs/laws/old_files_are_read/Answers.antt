use Rattle.std.proofs.Common.{refl}
use Rattle.mq_image.specs.Drives.{old_image}
use Rattle.mq_image.specs.File.{file_bytes}
use Rattle.mq_image.proofs.FileForms.{formed-good, formed-old, read-formed}
use Rattle.mq_image.proofs.OldMoves.{blank-moved, entry-moved}
use Rattle.mq_image.proofs.laws.old_files_are_read.Goals as goal

pub returns-clause-fault : goal.returns-clause-fault
returns-clause-fault c g old root h = formed-good 1 old root (old_image g old root) (file_bytes 1 g old root) (formed-old (old_image g old root) old root h refl)

pub returns-clause-same : goal.returns-clause-same
returns-clause-same c g old root y h r = read-formed 1 old root (old_image g old root) y (file_bytes 1 g old root) (formed-old (old_image g old root) old root h refl) r

pub returns-clause-entries : goal.returns-clause-entries
returns-clause-entries c p n w low high = entry-moved p w n low high

pub returns-clause-others : goal.returns-clause-others
returns-clause-others c p k l none = blank-moved p k l none
