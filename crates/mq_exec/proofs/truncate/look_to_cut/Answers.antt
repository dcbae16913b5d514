use Rattle.std.proofs.Common.{◌/◌, ℕ, List, ◌++◌, ap, ◌∙◌}
use Rattle.std.specs.List.{Contains}
use Rattle.std.proofs.lemmas.Result.{IfErr-weaker, on_ok_weaker}
use Rattle.mq_exec.specs.Cuts.{LooksCut}
use Rattle.mq_exec.proofs.CutsGoneBlocks.{IsCutSought, gone-release, gone-zones, last-held, sought-looks}
use Rattle.mq_inodes.specs.MissingPages.{MissingOf, OfEach}
use Rattle.mq_inodes.specs.Pages.{pages_of}
use Rattle.mq_inodes.specs.Released.{gone_from}
use Rattle.mq_inodes.proofs.MissingPages.{lacks-weaker}
use Rattle.mq_inodes.proofs.Released.{rest-all}
use Rattle.mq_tree.specs.Sound.{blocks_for}
use Rattle.mq_exec.proofs.truncate.look_to_cut.Goals as goal

pub bitmaps-requires : goal.bitmaps-requires
bitmaps-requires c =
    let p = c.requires.possible in
    gone-zones c.args.working.now.geometry p.0 c.args.file.now (blocks_for c.args.size) c.deref.result.now p.1.sound (c.requires.opened p.0 p.1) (c.deref.ensures.value ∙ c.in_ok-gone.ensures ∙ ap (λ (n : ℕ). gone_from c.args.file.now n) c.count_for.ensures.is)

pub returns-clause-last : goal.returns-clause-last
returns-clause-last c =
    let p = c.requires.possible in
    let o = c.args.file.now in
    let g = c.args.working.now.geometry in
    let bitmaps = c.in_ok-wanted.wanted.items in
    let s : IsCutSought g o c.args.size c.deref.result.now bitmaps c.deref-3.result.now =
    record {
      gone_is = c.deref.ensures.value ∙ c.in_ok-gone.ensures ∙ ap (λ (n : ℕ). gone_from o n) c.count_for.ensures.is;
      marked = c.in_ok-wanted.ensures.all;
      only = c.in_ok-wanted.ensures.only;
      all_is = c.deref-3.ensures.value ∙ c.in_ok-extend_from_slice.ensures.items ∙ ap (λ (xs : List ℕ). bitmaps ++ xs) (rest-all o.blocks.items c.deref-2.result.now (c.args.size / 4096) c.deref-2.ensures.value);
    } in
    on_ok_weaker c.look_for_all.result (last-held g p.0 o (pages_of c.args.working.now) c.args.size c.deref.result.now bitmaps c.deref-3.result.now p.1 (c.requires.opened p.0 p.1) s) c.look_for_all.ensures.ok

pub returns-clause-release : goal.returns-clause-release
returns-clause-release c =
    let p = c.requires.possible in
    let o = c.args.file.now in
    let g = c.args.working.now.geometry in
    let bitmaps = c.in_ok-wanted.wanted.items in
    let s : IsCutSought g o c.args.size c.deref.result.now bitmaps c.deref-3.result.now =
    record {
      gone_is = c.deref.ensures.value ∙ c.in_ok-gone.ensures ∙ ap (λ (n : ℕ). gone_from o n) c.count_for.ensures.is;
      marked = c.in_ok-wanted.ensures.all;
      only = c.in_ok-wanted.ensures.only;
      all_is = c.deref-3.ensures.value ∙ c.in_ok-extend_from_slice.ensures.items ∙ ap (λ (xs : List ℕ). bitmaps ++ xs) (rest-all o.blocks.items c.deref-2.result.now (c.args.size / 4096) c.deref-2.ensures.value);
    } in
    on_ok_weaker c.look_for_all.result (gone-release g p.0 o (pages_of c.args.working.now) c.args.size c.deref.result.now bitmaps c.deref-3.result.now p.1 (c.requires.opened p.0 p.1) c.requires.pointers s) c.look_for_all.ensures.ok

pub returns-clause-lack : goal.returns-clause-lack
returns-clause-lack c =
    let o = c.args.file.now in
    let g = c.args.working.now.geometry in
    let bitmaps = c.in_ok-wanted.wanted.items in
    let s : IsCutSought g o c.args.size c.deref.result.now bitmaps c.deref-3.result.now =
    record {
      gone_is = c.deref.ensures.value ∙ c.in_ok-gone.ensures ∙ ap (λ (n : ℕ). gone_from o n) c.count_for.ensures.is;
      marked = c.in_ok-wanted.ensures.all;
      only = c.in_ok-wanted.ensures.only;
      all_is = c.deref-3.ensures.value ∙ c.in_ok-extend_from_slice.ensures.items ∙ ap (λ (xs : List ℕ). bitmaps ++ xs) (rest-all o.blocks.items c.deref-2.result.now (c.args.size / 4096) c.deref-2.ensures.value);
    } in
    IfErr-weaker c.look_for_all.result _ (MissingOf c.args.working.now (λ v b. LooksCut g v o.number c.args.size b))
    (λ lack n. lacks-weaker (pages_of c.args.working.now) (Contains c.deref-3.result.now) (λ b. OfEach c.args.working.now (λ v. LooksCut g v o.number c.args.size b)) lack
    (λ b h v agrees. sought-looks g v o c.args.size b c.deref.result.now bitmaps c.deref-3.result.now agrees.sound (c.requires.opened v agrees) s h) n) c.look_for_all.ensures.lack
