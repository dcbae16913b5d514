use Rattle.mq_area.proofs.ReadingFurther.{accepts-before, refuses-before}
use Rattle.mq_recover.proofs.RefusalsChains.{ok-map, err-map}
use Rattle.mq_recover.proofs.descriptors.JournalDescriptorsDescriptors.read.Goals as goal

pub returns-clause-sound : goal.returns-clause-sound
returns-clause-sound g = λ b same.
    ok-map _ _ _ (λ d accepted. accepts-before g.args.geometry g.args.at.now g.args.block.now g.args.before.now b d same accepted) g.read_descriptor.ensures.sound

pub returns-clause-refused : goal.returns-clause-refused
returns-clause-refused g = λ b same.
    err-map _ _ _ (λ cause refused. refuses-before g.args.geometry g.args.at.now g.args.block.now g.args.before.now b cause g.requires same refused) g.read_descriptor.ensures.refused
