use Rattle.mq_layout.proofs.Fields.{not-refused}
use Rattle.mq_layout.proofs.SlotsForms.{slot-none, slot-unused, slot-used, unused-sound, used-sound}
use Rattle.mq_layout.proofs.slot.read_slot.Goals as goal

pub returns-in_err-check_slot-clause-complete : goal.returns-in_err-check_slot-clause-complete
returns-in_err-check_slot-clause-complete c e s = not-refused _ _ (slot-none c.args.block.now c.bytes-bytes.result.now c.args.at e c.bytes-bytes.ensures.is s) c.in_err-check_slot.ensures.finds

pub returns-then-bytes-start-eq0-clause-sound : goal.returns-then-bytes-start-eq0-clause-sound
returns-then-bytes-start-eq0-clause-sound c =
    unused-sound c.args.block.now c.bytes-bytes.result.now c.args.at c.bytes-bytes.ensures.is c.bytes-bytes.ensures.whole c.requires c.if-bytes-start-eq0.true c.in_ok-check_slot.ensures.finds

pub returns-then-bytes-start-eq0-clause-complete : goal.returns-then-bytes-start-eq0-clause-complete
returns-then-bytes-start-eq0-clause-complete c e s = slot-unused c.args.block.now c.bytes-bytes.result.now c.args.at e c.bytes-bytes.ensures.is c.if-bytes-start-eq0.true s

pub returns-clause-sound : goal.returns-clause-sound
returns-clause-sound c =
    used-sound c.args.block.now c.bytes-bytes.result.now c.args.at c.u32_at.result c.bytes-bytes.ensures.is c.bytes-bytes.ensures.whole c.requires c.in_ok-check_slot.ensures.bytes c.if-bytes-start-eq0.false c.u32_at.ensures
    c.in_ok-check_slot.ensures.finds

pub returns-clause-complete : goal.returns-clause-complete
returns-clause-complete c e s = slot-used c.args.block.now c.bytes-bytes.result.now c.args.at c.u32_at.result e c.bytes-bytes.ensures.is c.if-bytes-start-eq0.false c.u32_at.ensures s
