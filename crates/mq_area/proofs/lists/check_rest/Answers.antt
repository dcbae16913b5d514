use Rattle.std.proofs.Common.{refl}
use Rattle.mq_area.proofs.ReadingSound.{zero-one, rest-two}
use Rattle.mq_area.proofs.lists.check_rest.Goals as goal

pub returns-in-None : goal.returns-in-None
returns-in-None c = zero-one c.args.block.now c.args.before.now c.args.count c.requires.whole c.if-count-le-ENTRIES.true c.in-None.ensures

pub returns-in-Some-first_other : goal.returns-in-Some-first_other
returns-in-Some-first_other c = rest-two c.args.block.now c.args.before.now c.args.count c.in-Some-first_other.k _ c.requires.whole c.if-count-le-ENTRIES.false refl c.in-Some-first_other.ensures
