use Rattle.std.proofs.Common.{length, sym, ap, subst, ◌∙◌}
use Rattle.mq_inodes.specs.Pages.{pages_of}
use Rattle.mq_inodes.specs.Released.{CutsPointers, IsCutInode}
use Rattle.mq_inodes.proofs.ReleasedCutting.{becomes-cut, cut-form, pointers-held, pointers-high, table-cut}
use Rattle.mq_inodes.proofs.GrowingByOne.{count-items}
use Rattle.mq_inodes.proofs.EditsLinking.{on_ok-both}
use Rattle.mq_inodes.proofs.ChangesGone.{gone-releasable}
use Rattle.mq_layout.specs.declared.inode.Inode.{Inode}
use Rattle.mq_tree.proofs.CleanLaid.{length-padded}
use Rattle.mq_tree.specs.Volume.{node}
use Rattle.mq_inodes.proofs.working.Working.cut.Goals as goal

pub cut_pointers-requires : goal.cut_pointers-requires
cut_pointers-requires c =
    let x = c.requires.possible in
    λ many more. pointers-held x.0 c.args.o.now c.args.count x.1 x.2 c.args.self.now c.release_from.new.self x.3 x.4 c.requires.pointers c.in_ok-release_from.ensures many

pub cut_inode-requires : goal.cut_inode-requires
cut_inode-requires c =
    let x = c.requires.possible in
    let o = x.4.opened in
    ap (λ (inode : Inode). length inode.direct) o.inode ∙ length-padded 12 (node x.0 c.args.o.now.number).blocks

pub put_inode-requires-clause-form : goal.put_inode-requires-clause-form
put_inode-requires-clause-form c =
    let x = c.requires.possible in
    cut-form c.args.self.now.geometry (pages_of c.args.self.now) x.0 c.args.o.now c.args.count x.1 x.2 c.cut_inode.result x.3 x.4 (subst (λ size. IsCutInode c.args.o.now.inode c.cut_inode.result c.args.count size) (sym x.5) c.cut_inode.ensures)

pub put_inode-requires-clause-held : goal.put_inode-requires-clause-held
put_inode-requires-clause-held c =
    let x = c.requires.possible in
    let m = x.4 in
    table-cut c.args.o.now c.args.count c.args.self.now c.release_from.new.self c.cut_pointers.new.self m.opened.low m.few (pointers-high x.0 c.args.o.now c.args.self.now x.3 m.opened) c.requires.table c.in_ok-release_from.ensures (subst (λ have. CutsPointers c.release_from.new.self c.cut_pointers.new.self c.args.o.now.inode.indirect have c.args.count) (c.len-have.ensures ∙ count-items c.args.o.now) c.in_ok-cut_pointers.ensures)

pub returns-clause-cut : goal.returns-clause-cut
returns-clause-cut c =
    let old = c.args.self.now in
    let o = c.args.o.now in
    on_ok-both c.put_inode.result c.put_inode.ensures.kinds c.put_inode.ensures.put (λ keeps put v bytes now carries may is. becomes-cut v o c.args.count bytes now old c.release_from.new.self c.cut_pointers.new.self c.put_inode.new.self c.cut_inode.result (record {
      carries = carries;
      may = may;
      releasable = gone-releasable old.geometry (pages_of old) o c.args.count c.requires.blocks c.requires.release;
      table = c.requires.table;
      held = c.requires.pointers;
      released = c.in_ok-release_from.ensures;
      pointers = subst (λ have. CutsPointers c.release_from.new.self c.cut_pointers.new.self o.inode.indirect have c.args.count) (c.len-have.ensures ∙ count-items c.args.o.now) c.in_ok-cut_pointers.ensures;
      keeps = keeps;
      put = put;
      says = subst (λ size. IsCutInode o.inode c.cut_inode.result c.args.count size) (sym is) c.cut_inode.ensures;
    }))
