use Rattle.std.proofs.Common.{ℕ, ◌≡◌, ◌-◌, ◌/◌, length, get_or, sym, ap, ◌∙◌, arith}
use Rattle.mq_inodes.specs.Pages.{pages_of}
use Rattle.mq_inodes.proofs.EditsLinking.{name-linked, on_ok-both}
use Rattle.mq_inodes.proofs.OpenedLinkedGrown.{blank-held, full-blank, full-linked, full-slots, may-grow}
use Rattle.mq_inodes.proofs.DirsSlotNumbers.{unused-inside}
use Rattle.mq_inodes.proofs.working.Working.link_name_at.Goals as goal

pub index-requires : goal.index-requires
index-requires c =
    let inside = unused-inside (pages_of c.args.self.now) c.args.o.now.blocks.items c.in-Some.slot (sym c.in-Some.is ∙ c.requires.slot) in
    omega arith

pub put_slot-requires-clause-held : goal.put_slot-requires-clause-held
put_slot-requires-clause-held c =
    let inside = unused-inside (pages_of c.args.self.now) c.args.o.now.blocks.items c.in-Some.slot (sym c.in-Some.is ∙ c.requires.slot) in
    rw c.index.ensures (c.requires.held (c.in-Some.slot / 15) c.index.result.now inside).held

pub returns-in-Some-clause-linked : goal.returns-in-Some-clause-linked
returns-in-Some-clause-linked c = on_ok-both c.put_slot.result c.put_slot.ensures.kinds c.put_slot.ensures.put (λ kind put q v carries may.
    name-linked c.args.self.now.geometry q v c.args.o.now _ c.args.picks.now c.in-Some.slot c.index.result.now c.args.self.now c.put_slot.new.self carries may c.requires.held
    (sym c.in-Some.is ∙ c.requires.slot) c.index.ensures kind put)

pub grow-requires-clause-possible : goal.grow-requires-clause-possible
grow-requires-clause-possible c =
    let p = c.requires.possible in
    let none = sym c.in_default.is ∙ c.requires.slot in
    (p.0, p.1, 1, p.2, may-grow c.args.self.now.geometry p.0 p.1 c.args.o.now _ c.args.picks.now p.3 (full-slots c.args.self.now.geometry p.0 p.1 c.args.o.now _ c.args.picks.now c.args.self.now p.3 p.2 c.requires.held none))

pub overflow_sub-len : goal.overflow_sub-len
overflow_sub-len c =
    let p = c.requires.possible in
    let none = sym c.in_default.is ∙ c.requires.slot in
    let longer = (full-blank c.args.self.now.geometry p.0 p.1 c.args.o.now c.grow.new.o _ c.args.picks.now c.args.self.now c.grow.new.self p.3 p.2 c.requires.held none c.in_ok-grow.ensures.over c.in_ok-grow.ensures.grown).longer in
    let e = c.len.ensures in
    omega arith

pub index-last-requires : goal.index-last-requires
index-last-requires c =
    let p = c.requires.possible in
    let none = sym c.in_default.is ∙ c.requires.slot in
    let longer = (full-blank c.args.self.now.geometry p.0 p.1 c.args.o.now c.grow.new.o _ c.args.picks.now c.args.self.now c.grow.new.self p.3 p.2 c.requires.held none c.in_ok-grow.ensures.over c.in_ok-grow.ensures.grown).longer in
    let e = c.len.ensures in
    omega arith

pub put_slot-requires-2-clause-held : goal.put_slot-requires-2-clause-held
put_slot-requires-2-clause-held c =
    let p = c.requires.possible in
    let none = sym c.in_default.is ∙ c.requires.slot in
    let count : c.len.result ≡ length c.grow.new.o.blocks.items = (let e = c.len.ensures in omega arith) in
    let at = c.index-last.ensures ∙ ap (λ (n : ℕ). get_or c.grow.new.o.blocks.items (n - 1) c.index-last.result.now) count in
    blank-held _ c.args.o.now c.grow.new.o c.grow.new.self _ c.index-last.result.now (full-blank c.args.self.now.geometry p.0 p.1 c.args.o.now c.grow.new.o _ c.args.picks.now c.args.self.now c.grow.new.self p.3 p.2 c.requires.held none c.in_ok-grow.ensures.over c.in_ok-grow.ensures.grown) at

pub returns-clause-linked : goal.returns-clause-linked
returns-clause-linked c =
    let none = sym c.in_default.is ∙ c.requires.slot in
    let count : c.len.result ≡ length c.grow.new.o.blocks.items = (let e = c.len.ensures in omega arith) in
    let at = c.index-last.ensures ∙ ap (λ (n : ℕ). get_or c.grow.new.o.blocks.items (n - 1) c.index-last.result.now) count in
    on_ok-both c.put_slot-2.result c.put_slot-2.ensures.kinds c.put_slot-2.ensures.put (λ kind put q v carries may.
    full-linked c.args.self.now.geometry q v c.args.o.now c.grow.new.o _ c.args.picks.now c.index-last.result.now c.args.self.now c.grow.new.self c.put_slot-2.new.self carries may c.requires.held none c.in_ok-grow.ensures.over c.in_ok-grow.ensures.grown at kind put)
