use Rattle.mq_image_laws.proofs.AlikeDrives.{image-alike, read-alike, stands-alike, whole-alike}
use Rattle.mq_image_laws.proofs.alike.alike_drives_are_read_alike.Goals as goal

pub returns-clause-whole : goal.returns-clause-whole
returns-clause-whole c = whole-alike

pub returns-clause-read : goal.returns-clause-read
returns-clause-read c = read-alike

pub returns-clause-stands : goal.returns-clause-stands
returns-clause-stands c = stands-alike

pub returns-clause-refused : goal.returns-clause-refused
returns-clause-refused c = image-alike
