use Rattle.std.proofs.Common.{◌/◌, sym, ◌∙◌}
use Rattle.mq_inodes.specs.Dirs.{slots_at}
use Rattle.mq_inodes.specs.Pages.{pages_of}
use Rattle.mq_inodes.proofs.EditsLinking.{name-unlinked, on_ok-both}
use Rattle.mq_inodes.proofs.DirsSlotNumbers.{number-inside, number-none}
use Rattle.mq_inodes.proofs.working.Working.unlink_name.Goals as goal

pub unreachable-requires : goal.unreachable-requires
unreachable-requires c = c.requires.found (number-none 0 c.args.name.now (slots_at (pages_of c.args.self.now) c.args.blocks.now) (sym c.in_default.is ∙ c.slot_of.ensures))

pub bounds-blocks-slot : goal.bounds-blocks-slot
bounds-blocks-slot c = number-inside (pages_of c.args.self.now) c.args.name.now c.args.blocks.now c.in-Some.slot (sym c.in-Some.is ∙ c.slot_of.ensures)

pub clear_slot-requires-clause-held : goal.clear_slot-requires-clause-held
clear_slot-requires-clause-held c =
    let inside = number-inside (pages_of c.args.self.now) c.args.name.now c.args.blocks.now c.in-Some.slot (sym c.in-Some.is ∙ c.slot_of.ensures) in
    rw c.index-blocks-slot.is (c.requires.held (c.in-Some.slot / 15) c.index-blocks-slot.result inside).held

pub returns-clause-unlinked : goal.returns-clause-unlinked
returns-clause-unlinked c = on_ok-both c.clear_slot.result c.clear_slot.ensures.kinds c.clear_slot.ensures.put (λ kind put v d carries may.
    (name-unlinked c.args.self.now.geometry v d c.args.name.now c.args.blocks.now c.in-Some.slot c.index-blocks-slot.result c.args.self.now c.clear_slot.new.self carries may c.requires.held (sym c.in-Some.is ∙ c.slot_of.ensures) c.index-blocks-slot.is kind put).becomes)

pub returns-clause-dirs : goal.returns-clause-dirs
returns-clause-dirs c = on_ok-both c.clear_slot.result c.clear_slot.ensures.kinds c.clear_slot.ensures.put (λ kind put.
    let p = c.requires.possible in
    (name-unlinked c.args.self.now.geometry p.0 p.1 c.args.name.now c.args.blocks.now c.in-Some.slot c.index-blocks-slot.result c.args.self.now c.clear_slot.new.self p.2 p.3 c.requires.held (sym c.in-Some.is ∙ c.slot_of.ensures) c.index-blocks-slot.is kind put).dirs)

pub returns-clause-slots : goal.returns-clause-slots
returns-clause-slots c = on_ok-both c.clear_slot.result c.clear_slot.ensures.kinds c.clear_slot.ensures.put (λ kind put.
    let p = c.requires.possible in
    (name-unlinked c.args.self.now.geometry p.0 p.1 c.args.name.now c.args.blocks.now c.in-Some.slot c.index-blocks-slot.result c.args.self.now c.clear_slot.new.self p.2 p.3 c.requires.held (sym c.in-Some.is ∙ c.slot_of.ensures) c.index-blocks-slot.is kind put).slots)
