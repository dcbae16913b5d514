use Rattle.mq_loose_recover.proofs.ImagesFound.{image-said}
use Rattle.mq_loose_recover.proofs.ImagesWhole.{whole-image}
use Rattle.mq_loose_recover.proofs.ReadingExact.{loose-reader}
use Rattle.mq_loose_recover.proofs.laws.loose_images_are_whole.Goals as goal
use Rattle.mq_loose_recover.specs.Reading.{accepts_loose, refuses_loose}
use Rattle.mq_recover.proofs.ReadersImages.{image-refused-by}

pub returns-clause-whole : goal.returns-clause-whole
returns-clause-whole c = image-said

pub returns-clause-readable : goal.returns-clause-readable
returns-clause-readable c = whole-image

pub returns-clause-unrefused : goal.returns-clause-unrefused
returns-clause-unrefused c = image-refused-by accepts_loose refuses_loose loose-reader
