use Rattle.mq_image_laws.proofs.OldFiles.{old-reads, old-refused, old-stands, old-whole}
use Rattle.mq_image_laws.proofs.old_files.old_files_are_read_as_before.Goals as goal

pub returns-clause-whole : goal.returns-clause-whole
returns-clause-whole c = old-whole

pub returns-clause-read : goal.returns-clause-read
returns-clause-read c = old-reads

pub returns-clause-stands : goal.returns-clause-stands
returns-clause-stands c = old-stands

pub returns-clause-refused : goal.returns-clause-refused
returns-clause-refused c = old-refused
