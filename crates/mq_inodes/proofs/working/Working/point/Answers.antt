use Rattle.std.proofs.Common.{ℕ, ◌≡◌, sym, subst, refl, ap, ◌∙◌}
use Rattle.mq_inodes.specs.declared.opened.Opened.{Opened}
use Rattle.mq_inodes.proofs.GrowingByOne.{on_ok_three, point-form, point-got}
use Rattle.mq_layout.specs.Inodes.{IsInode}
use Rattle.mq_layout.specs.declared.inode.Inode.{Inode}
use Rattle.mq_inodes.proofs.working.Working.point.Goals as goal

-- what the inode says with another block of pointers
abbrev pointing : Inode → ℕ → Inode
pointing i b = record { kind = i.kind; links = i.links; size = i.size; direct = i.direct; indirect = b }

pub put_inode-requires-clause-form : goal.put_inode-requires-clause-form
put_inode-requires-clause-form c =
    let p = c.requires.possible in
    let is : pointing c.args.o.now.inode c.args.b ≡ pointing c.args.o.now.inode c.b.inside.0 = ap (pointing c.args.o.now.inode) (sym c.b.view_is) in
    subst (λ (x : Inode). IsInode x) (ap (λ (x : Inode). pointing x c.args.b) (sym p.2.inode) ∙ is) (point-form c.args.self.now.geometry _ p.0 c.args.o.now c.args.b p.1 p.2)

pub returns-clause-got : goal.returns-clause-got
returns-clause-got c =
    let o = c.args.o.now in
    let after : Opened = record { number = o.number; inode = pointing o.inode c.b.inside.0; blocks = o.blocks } in
    let t = c.in_ok-take.ensures in
    on_ok_three c.put_inode.result (λ over kinds put v carries may.
    point-got c.args.self.now c.take.new.self c.put_inode.new.self v o after c.args.b carries may c.requires.twelve c.requires.none c.requires.pick c.requires.table
    (record { over = t.over; kinds = t.kinds; taken = t.taken }) refl (ap (pointing o.inode) c.b.view_is) refl (record { over = over; kinds = kinds; put = put }))
    c.put_inode.ensures.over c.put_inode.ensures.kinds c.put_inode.ensures.put
