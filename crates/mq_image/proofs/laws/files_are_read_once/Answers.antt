use Rattle.mq_image.proofs.FileForms.{read-faulty, read-good, read-once}
use Rattle.mq_image.proofs.laws.files_are_read_once.Goals as goal

pub returns-clause-once : goal.returns-clause-once
returns-clause-once c = read-once

pub returns-clause-good : goal.returns-clause-good
returns-clause-good c = read-good

pub returns-clause-faulty : goal.returns-clause-faulty
returns-clause-faulty c = read-faulty
