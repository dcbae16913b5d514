use Rattle.mq_drive.specs.Choices.{next_bytes}
use Rattle.mq_drive.proofs.Choices.{slot_is}
use Rattle.mq_drive.proofs.random.next_entry.Goals as goal

pub returns : goal.returns
unfolding next_bytes
returns c = slot_is c.from_bytes.result c.fill_bytes_via_u64.new.dst c.args.rng.now c.fill_bytes_via_u64.new.rng c.from_bytes.ensures.dwords c.from_bytes.ensures.bytes c.fill_bytes_via_u64.ensures
