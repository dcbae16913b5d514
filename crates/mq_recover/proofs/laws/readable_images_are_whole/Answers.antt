use Rattle.mq_recover.proofs.DrivesImages.{whole-readable, readable-whole, image-refused}
use Rattle.mq_recover.proofs.laws.readable_images_are_whole.Goals as goal

pub returns-clause-whole : goal.returns-clause-whole
returns-clause-whole c = readable-whole

pub returns-clause-readable : goal.returns-clause-readable
returns-clause-readable c = whole-readable

pub returns-clause-unrefused : goal.returns-clause-unrefused
returns-clause-unrefused c = image-refused
