use Rattle.std.proofs.Common.{ℕ, ◌≡◌, ◌-◌, ◌≤◌, ◌<◌, length, sym, subst, refl, ap, ◌∙◌}
use Rattle.std.proofs.lemmas.Result.{on_ok_weaker}
use Rattle.mq_inodes.specs.Growing.{longer_inode}
use Rattle.mq_inodes.specs.Pages.{pages_of}
use Rattle.mq_inodes.specs.declared.opened.Opened.{Opened}
use Rattle.mq_inodes.proofs.EditsBecoming.{over-then}
use Rattle.mq_inodes.proofs.GrowingByOne.{append-form, appended-as, count-items, far_dir-got, far_file-got, inode-keeps, keeps-then, near-got, on_ok_three, pointed-as, pointer-keeps, take-keeps, took-as, twelve-direct}
use Rattle.mq_layout.specs.Inodes.{IsInode}
use Rattle.mq_layout.specs.declared.inode.Inode.{Inode}
use Rattle.mq_inodes.proofs.working.Working.append.Goals as goal

-- ---- the form of the inode

form-as : (o : Opened) (inode : Inode) (count b : ℕ) → inode ≡ longer_inode o.inode count b → count ≡ length o.blocks.items → IsInode (longer_inode o.inode (length o.blocks.items) b) → IsInode inode
form-as o inode count b e f form = subst (λ (x : Inode). IsInode x) (sym (e ∙ ap (λ (k : ℕ). longer_inode o.inode k b) f)) form

pub lengthen-requires-clause-twelve : goal.lengthen-requires-clause-twelve
lengthen-requires-clause-twelve c = let p = c.requires.possible in twelve-direct c.args.self.now.geometry p.0 c.args.o.now c.args.b p.2

pub put_inode-requires-clause-form : goal.put_inode-requires-clause-form
put_inode-requires-clause-form c =
    let p = c.requires.possible in
    form-as c.args.o.now c.lengthen.new.inode c.len-count.result c.args.b c.lengthen.ensures (c.len-count.ensures ∙ count-items c.args.o.now) (append-form c.args.self.now.geometry (pages_of c.args.self.now) p.0 c.args.o.now c.args.b p.1 p.2)

pub invariant_of-put_pointer : goal.invariant_of-put_pointer
invariant_of-put_pointer c =
    let p = c.requires.possible in
    (form-as c.args.o.now c.lengthen.new.inode c.len-count.result c.args.b c.lengthen.ensures (c.len-count.ensures ∙ count-items c.args.o.now) (append-form c.args.self.now.geometry (pages_of c.args.self.now) p.0 c.args.o.now c.args.b p.1 p.2)).indirect

pub put_inode-requires-then-o-eq-DIRECTORY-clause-form : goal.put_inode-requires-then-o-eq-DIRECTORY-clause-form
put_inode-requires-then-o-eq-DIRECTORY-clause-form c =
    let p = c.requires.possible in
    form-as c.args.o.now c.lengthen.new.inode c.len-count.result c.args.b c.lengthen.ensures (c.len-count.ensures ∙ count-items c.args.o.now) (append-form c.args.self.now.geometry (pages_of c.args.self.now) p.0 c.args.o.now c.args.b p.1 p.2)

-- ---- among the first twelve

pub returns-then-count-lt-DIRECT-clause-over : goal.returns-then-count-lt-DIRECT-clause-over
returns-then-count-lt-DIRECT-clause-over c =
    on_ok_weaker c.put_inode.result (over-then c.args.self.now c.take.new.self c.put_inode.new.self c.in_ok-take.ensures.over) c.put_inode.ensures.over

pub returns-then-count-lt-DIRECT-clause-others : goal.returns-then-count-lt-DIRECT-clause-others
returns-then-count-lt-DIRECT-clause-others c =
    let mid = pages_of c.take.new.self in
    let new = pages_of c.put_inode.new.self in
    let k = take-keeps c.args.self.now.geometry (pages_of c.args.self.now) mid c.args.b c.in_ok-take.ensures.taken in
    on_ok_weaker c.put_inode.result (λ put. keeps-then (pages_of c.args.self.now) mid new c.args.b k (inode-keeps c.take.new.self.geometry mid new c.args.o.now.number c.args.b c.lengthen.new.inode put)) c.put_inode.ensures.put

pub returns-then-count-lt-DIRECT-clause-got : goal.returns-then-count-lt-DIRECT-clause-got
returns-then-count-lt-DIRECT-clause-got c =
    let o = c.args.o.now in
    let after : Opened = record { number = o.number; inode = c.lengthen.new.inode; blocks = c.push.new.self } in
    let t = c.in_ok-take.ensures in
    let near = subst (λ (k : ℕ). k < 12) (c.len-count.ensures ∙ count-items c.args.o.now) c.if-count-lt-DIRECT.true in
    on_ok_three c.put_inode.result (λ over kinds put v carries may.
    near-got c.args.self.now c.take.new.self c.put_inode.new.self v o after c.args.b carries may near c.requires.pick c.requires.table
    (took-as c.args.self.now c.take.new.self c.args.b c.kind_in.result _ c.kind_in.ensures t.over t.kinds t.taken)
    (appended-as o after c.len-count.result c.args.b (c.len-count.ensures ∙ count-items c.args.o.now) refl c.lengthen.ensures c.in_ok-push.ensures.items) (record { over = over; kinds = kinds; put = put }))
    c.put_inode.ensures.over c.put_inode.ensures.kinds c.put_inode.ensures.put

-- ---- past the twelfth, of a directory

pub returns-then-o-eq-DIRECTORY-clause-over : goal.returns-then-o-eq-DIRECTORY-clause-over
returns-then-o-eq-DIRECTORY-clause-over c =
    let two = over-then c.args.self.now c.take.new.self c.put_pointer.new.self c.in_ok-take.ensures.over c.in_ok-put_pointer.ensures.over in
    on_ok_weaker c.put_inode-then-o-eq-DIRECTORY.result (over-then c.args.self.now c.put_pointer.new.self c.put_inode-then-o-eq-DIRECTORY.new.self two) c.put_inode-then-o-eq-DIRECTORY.ensures.over

pub returns-then-o-eq-DIRECTORY-clause-others : goal.returns-then-o-eq-DIRECTORY-clause-others
returns-then-o-eq-DIRECTORY-clause-others c =
    let old = pages_of c.args.self.now in
    let mid = pages_of c.take.new.self in
    let next = pages_of c.put_pointer.new.self in
    let new = pages_of c.put_inode-then-o-eq-DIRECTORY.new.self in
    let k = take-keeps c.args.self.now.geometry old mid c.args.b c.in_ok-take.ensures.taken in
    let two = keeps-then old mid next c.args.b k (pointer-keeps mid next c.lengthen.new.inode.indirect (c.len-count.result - 12) c.args.b c.args.b c.in_ok-put_pointer.ensures.put) in
    on_ok_weaker c.put_inode-then-o-eq-DIRECTORY.result (λ put. keeps-then old next new c.args.b two (inode-keeps c.put_pointer.new.self.geometry next new c.args.o.now.number c.args.b c.lengthen.new.inode put))
    c.put_inode-then-o-eq-DIRECTORY.ensures.put

pub returns-then-o-eq-DIRECTORY-clause-got : goal.returns-then-o-eq-DIRECTORY-clause-got
returns-then-o-eq-DIRECTORY-clause-got c =
    let o = c.args.o.now in
    let after : Opened = record { number = o.number; inode = c.lengthen.new.inode; blocks = c.push.new.self } in
    let t = c.in_ok-take.ensures in
    let p = c.in_ok-put_pointer.ensures in
    let many = subst (λ (k : ℕ). 12 ≤ k) (c.len-count.ensures ∙ count-items c.args.o.now) c.if-count-lt-DIRECT.false in
    let q = c.put_inode-then-o-eq-DIRECTORY in
    let other = c.requires.far many in
    on_ok_three q.result (λ over kinds put v carries may.
    far_dir-got c.args.self.now c.take.new.self c.put_pointer.new.self q.new.self v o after c.args.b carries may many other c.requires.pick (c.requires.pointers other) c.requires.table
    (took-as c.args.self.now c.take.new.self c.args.b c.kind_in.result _ c.kind_in.ensures t.over t.kinds t.taken)
    (appended-as o after c.len-count.result c.args.b (c.len-count.ensures ∙ count-items c.args.o.now) refl c.lengthen.ensures c.in_ok-push.ensures.items)
    (pointed-as c.take.new.self c.put_pointer.new.self c.lengthen.new.inode.indirect o.inode.indirect (c.len-count.result - 12) (length o.blocks.items - 12) c.args.b (ap (λ (x : Inode). x.indirect) c.lengthen.ensures) (ap (λ (k : ℕ). k - 12) (c.len-count.ensures ∙ count-items c.args.o.now)) p.over p.kinds p.put)
    (record { over = over; kinds = kinds; put = put }))
    q.ensures.over q.ensures.kinds q.ensures.put

-- ---- past the twelfth, of a file

pub returns-clause-over : goal.returns-clause-over
returns-clause-over c = over-then c.args.self.now c.take.new.self c.put_pointer.new.self c.in_ok-take.ensures.over c.in_ok-put_pointer.ensures.over

pub returns-clause-others : goal.returns-clause-others
returns-clause-others c =
    let old = pages_of c.args.self.now in
    let mid = pages_of c.take.new.self in
    let next = pages_of c.put_pointer.new.self in
    let k = take-keeps c.args.self.now.geometry old mid c.args.b c.in_ok-take.ensures.taken in
    keeps-then old mid next c.args.b k (pointer-keeps mid next c.lengthen.new.inode.indirect (c.len-count.result - 12) c.args.b c.args.b c.in_ok-put_pointer.ensures.put)

pub returns-clause-got : goal.returns-clause-got
returns-clause-got c v carries may =
    let o = c.args.o.now in
    let after : Opened = record { number = o.number; inode = c.lengthen.new.inode; blocks = c.push.new.self } in
    let t = c.in_ok-take.ensures in
    let p = c.in_ok-put_pointer.ensures in
    let many = subst (λ (k : ℕ). 12 ≤ k) (c.len-count.ensures ∙ count-items c.args.o.now) c.if-count-lt-DIRECT.false in
    let other = c.requires.far many in
    far_file-got c.args.self.now c.take.new.self c.put_pointer.new.self v o after c.args.b carries may many other (λ e. c.if-o-eq-DIRECTORY.false (ap (λ (x : Inode). x.kind) c.lengthen.ensures ∙ e)) c.requires.pick (c.requires.pointers other)
    (took-as c.args.self.now c.take.new.self c.args.b c.kind_in.result _ c.kind_in.ensures t.over t.kinds t.taken)
    (appended-as o after c.len-count.result c.args.b (c.len-count.ensures ∙ count-items c.args.o.now) refl c.lengthen.ensures c.in_ok-push.ensures.items)
    (pointed-as c.take.new.self c.put_pointer.new.self c.lengthen.new.inode.indirect o.inode.indirect (c.len-count.result - 12) (length o.blocks.items - 12) c.args.b (ap (λ (x : Inode). x.indirect) c.lengthen.ensures) (ap (λ (k : ℕ). k - 12) (c.len-count.ensures ∙ count-items c.args.o.now)) p.over p.kinds p.put)
