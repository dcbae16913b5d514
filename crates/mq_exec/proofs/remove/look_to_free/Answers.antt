use Rattle.std.proofs.Common.{◌≡◌, ◌∙◌}
use Rattle.std.proofs.lemmas.Result.{IfErr-weaker, on_ok_weaker}
use Rattle.std.specs.List.{Contains}
use Rattle.mq_exec.specs.Removes.{LooksFreed}
use Rattle.mq_exec.proofs.RemovesFreeing.{all-looked, all_of, marks-held, may-release, owned-zones}
use Rattle.mq_inodes.specs.Fits.{Agrees}
use Rattle.mq_inodes.specs.MissingPages.{MissingOf}
use Rattle.mq_inodes.specs.Pages.{pages_of}
use Rattle.mq_inodes.proofs.MissingPages.{lacks-weaker}
use Rattle.mq_tree.specs.Volume.{Volume}
use Rattle.mq_exec.proofs.remove.look_to_free.Goals as goal

pub bitmaps-requires : goal.bitmaps-requires
bitmaps-requires c =
    let p = c.requires.possible in
    owned-zones c.args.working.now.geometry p.0 c.args.o.now c.deref.result.now p.1.sound (c.requires.opened p.0 p.1) (c.deref.ensures.value ∙ c.in_ok-wanted.ensures)

pub returns-clause-release : goal.returns-clause-release
returns-clause-release c =
    let p = c.requires.possible in
    let g = c.args.working.now.geometry in
    let is : c.deref-2.result.now ≡ all_of g c.in_ok-bitmaps.bitmaps.items c.deref.result.now = cc (c.deref-2.ensures.value, c.in_ok-append.ensures.items, c.in_ok-push.ensures.items, c.inode_bitmap.ensures, c.deref.ensures.value) in
    on_ok_weaker c.look_for_all.result (may-release g (pages_of c.args.working.now) p.0 c.args.o.now c.in_ok-bitmaps.bitmaps.items c.deref.result.now c.deref-2.result.now p.1 (c.requires.opened p.0 p.1) (c.deref.ensures.value ∙ c.in_ok-wanted.ensures) c.in_ok-bitmaps.ensures.all is) c.look_for_all.ensures.ok

pub returns-clause-marks : goal.returns-clause-marks
returns-clause-marks c =
    let p = c.requires.possible in
    let g = c.args.working.now.geometry in
    let is : c.deref-2.result.now ≡ all_of g c.in_ok-bitmaps.bitmaps.items c.deref.result.now = cc (c.deref-2.ensures.value, c.in_ok-append.ensures.items, c.in_ok-push.ensures.items, c.inode_bitmap.ensures, c.deref.ensures.value) in
    on_ok_weaker c.look_for_all.result (marks-held g (pages_of c.args.working.now) p.0 c.in_ok-bitmaps.bitmaps.items c.deref.result.now c.deref-2.result.now p.1 is) c.look_for_all.ensures.ok

pub returns-clause-lack : goal.returns-clause-lack
returns-clause-lack c =
    let g = c.args.working.now.geometry in
    let pages = pages_of c.args.working.now in
    let is : c.deref-2.result.now ≡ all_of g c.in_ok-bitmaps.bitmaps.items c.deref.result.now = cc (c.deref-2.ensures.value, c.in_ok-append.ensures.items, c.in_ok-push.ensures.items, c.inode_bitmap.ensures, c.deref.ensures.value) in
    IfErr-weaker c.look_for_all.result _ (MissingOf c.args.working.now (λ v b. LooksFreed g v c.args.o.now.number b))
    (λ lack n. lacks-weaker pages (Contains c.deref-2.result.now) (λ b. (v : Volume) → Agrees g pages v → LooksFreed g v c.args.o.now.number b) lack
    (λ b among v agrees. all-looked g v c.args.o.now c.in_ok-bitmaps.bitmaps.items c.deref.result.now c.deref-2.result.now b agrees.sound (c.requires.opened v agrees) (c.deref.ensures.value ∙ c.in_ok-wanted.ensures) c.in_ok-bitmaps.ensures.only is among) n) c.look_for_all.ensures.lack
