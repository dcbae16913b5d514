use Rattle.std.proofs.Common.{◌≡◌, ℕ, sym, subst, arith}
use Rattle.std.specs.Prelude.{Some}
use Rattle.std.proofs.lemmas.Result.{err_from_is_err_and}
use Rattle.mq_exec.specs.Cuts.{LooksCut, pointers}
use Rattle.mq_exec.specs.declared.truncate.Cutting.{Cutting}
use Rattle.mq_exec.proofs.CutsGoneBlocks.{gone-drop, gone-indirect}
use Rattle.mq_exec.proofs.Cuts.{cut-limit, plans-cut}
use Rattle.mq_inodes.specs.Pages.{IsHeld, pages_of}
use Rattle.mq_inodes.proofs.MissingPages.{lacks-each}
use Rattle.mq_layout.specs.Places.{inode_block}
use Rattle.mq_tree.specs.Sound.{blocks_for}
use Rattle.mq_tree.specs.Volume.{node}
use Rattle.mq_exec.proofs.truncate.plan_cut.Goals as goal

pub returns-in_err-file-clause-lack : goal.returns-in_err-file-clause-lack
returns-in_err-file-clause-lack c =
    let g = c.args.working.now.geometry in
    let i = c.args.found.now.number in
    let p = err_from_is_err_and c.from_residual.result c.from_residual.ensures.1 in
    rw (p.1, p.2) (lacks-each c.args.working.now (λ v b. (node v i).indirect ≡ Some b) (λ v b. LooksCut g v i c.args.size b) c.in_err-file.field-0.0 (λ v b agrees h. pointers h) c.in_err-file.ensures.lack)

pub look_to_cut-requires-clause-limit : goal.look_to_cut-requires-clause-limit
look_to_cut-requires-clause-limit c =
    let p = c.requires.possible in
    let m : Cutting = record { file = c.in_ok-file.file; size = c.args.size } in
    cut-limit c.args.working.now.geometry p.0 m c.args.working.now p.1 (plans-cut c.args.working.now.geometry (pages_of c.args.working.now) p.0 m c.args.found.now.number c.args.found.now.inode p.1 (c.in_ok-file.ensures.opened p.0 p.1) c.in_ok-file.ensures.number.0 (c.requires.file p.0 p.1) c.requires.shorter)

pub look_to_cut-requires-clause-few : goal.look_to_cut-requires-clause-few
look_to_cut-requires-clause-few c =
    let p = c.requires.possible in
    let m : Cutting = record { file = c.in_ok-file.file; size = c.args.size } in
    let plan = plans-cut c.args.working.now.geometry (pages_of c.args.working.now) p.0 m c.args.found.now.number c.args.found.now.inode p.1 (c.in_ok-file.ensures.opened p.0 p.1) c.in_ok-file.ensures.number.0 (c.requires.file p.0 p.1) c.requires.shorter in
    let n = plan.count in
    let s = plan.shorter in
    omega arith

pub returns-in_err-look_to_cut-clause-lack : goal.returns-in_err-look_to_cut-clause-lack
returns-in_err-look_to_cut-clause-lack c =
    let g = c.args.working.now.geometry in
    let i = c.args.found.now.number in
    let p = err_from_is_err_and c.from_residual-in_err-look_to_cut.result c.from_residual-in_err-look_to_cut.ensures.1 in
    rw (p.1, p.2) (lacks-each c.args.working.now (λ v b. LooksCut g v c.in_ok-file.file.number c.args.size b) (λ v b. LooksCut g v i c.args.size b) c.in_err-look_to_cut.field-0.0
    (λ v b agrees h. subst (λ (k : ℕ). LooksCut g v k c.args.size b) c.in_ok-file.ensures.number.0 h) c.in_err-look_to_cut.ensures.lack)

pub returns-clause-ok : goal.returns-clause-ok
returns-clause-ok c v agrees =
    plans-cut c.args.working.now.geometry (pages_of c.args.working.now) v (record { file = c.in_ok-file.file; size = c.args.size }) c.args.found.now.number c.args.found.now.inode agrees (c.in_ok-file.ensures.opened v agrees) c.in_ok-file.ensures.number.0 (c.requires.file v agrees) c.requires.shorter

pub returns-clause-pages : goal.returns-clause-pages
returns-clause-pages c =
    let g = c.args.working.now.geometry in
    let pages = pages_of c.args.working.now in
    let o = c.in_ok-file.file in
    let e = c.in_ok-look_to_cut.ensures in
    record {
      table = subst (λ (k : ℕ). IsHeld pages (inode_block g k)) (sym c.in_ok-file.ensures.number.0) c.requires.table;
      last = e.last;
      blocks = gone-drop g pages o (blocks_for c.args.size) e.release;
      pointers = c.in_ok-file.ensures.pointers;
      release = gone-indirect g pages o (blocks_for c.args.size) e.release;
    }
