use Rattle.std.proofs.Common.{◌≡◌, ◌≢◌, ◌/◌, ◌++◌, ℕ, List, sym, ap, subst, ◌∙◌}
use Rattle.std.specs.Prelude.{Some, None}
use Rattle.std.specs.List.{All, Contains}
use Rattle.std.proofs.lemmas.Result.{err_from_is_err_and}
use Rattle.mq_exec.specs.Longer.{LooksLonger, indirect, short}
use Rattle.mq_exec.specs.Overwrites.{blocks_at, past_place}
use Rattle.mq_exec.specs.declared.rewrite.Rewriting.{Rewriting}
use Rattle.mq_exec.proofs.Longer.{longer-few, longer-need, longer-plan, all-left, wanted-looks, wanted-places}
use Rattle.mq_exec.proofs.OpenedLinkable.{takeables}
use Rattle.mq_inodes.specs.MissingPages.{OfEach}
use Rattle.mq_inodes.specs.Pages.{IsHeld, pages_of}
use Rattle.mq_inodes.specs.Picks.{ArePicked, IsSearched}
use Rattle.mq_inodes.proofs.MissingPages.{lacks-each, lacks-weaker}
use Rattle.mq_layout.specs.Places.{inode_block}
use Rattle.mq_tree.specs.Volume.{node}
use Rattle.mq_exec.proofs.rewrite.plan_longer.Goals as goal

pub returns-in_err-picks-clause-lack : goal.returns-in_err-picks-clause-lack
returns-in_err-picks-clause-lack c =
    let g = c.args.working.now.geometry in
    let pages = pages_of c.args.working.now in
    let i = c.args.found.now.number in
    let p = err_from_is_err_and c.from_residual.result c.from_residual.ensures.1 in
    rw (p.1, p.2) (lacks-each c.args.working.now (λ v b. IsSearched g c.args.queue v c.needs-need.result b) (λ v b. LooksLonger g c.args.queue v i c.args.size c.args.at c.args.count b) c.in_err-picks.field-0.0
    (λ v b agrees h. short (subst (λ (k : ℕ). IsSearched g c.args.queue v k b) (longer-need g pages v i c.args.size c.needs-need.result c.count_for.result c.count_for-2.result c.args.found.now.inode agrees (c.requires.file v agrees) c.needs-need.ensures c.count_for.ensures.is c.count_for-2.ensures.is) h)) c.in_err-picks.ensures.lack)

pub returns-in_default-clause-ok : goal.returns-in_default-clause-ok
returns-in_default-clause-ok c v agrees verdict rewritten bytes r =
    let g = c.args.working.now.geometry in
    let pages = pages_of c.args.working.now in
    let i = c.args.found.now.number in
    longer-few g c.args.queue v i c.args.size c.needs-need.result verdict rewritten bytes r
    (longer-need g pages v i c.args.size c.needs-need.result c.count_for.result c.count_for-2.result c.args.found.now.inode agrees (c.requires.file v agrees) c.needs-need.ensures c.count_for.ensures.is c.count_for-2.ensures.is) (rw c.in_default.is at c.in_ok-picks.ensures.ok v agrees)

pub returns-in_err-file-clause-lack : goal.returns-in_err-file-clause-lack
returns-in_err-file-clause-lack c =
    let g = c.args.working.now.geometry in
    let pages = pages_of c.args.working.now in
    let i = c.args.found.now.number in
    let p = err_from_is_err_and c.from_residual-in_err-file.result c.from_residual-in_err-file.ensures.1 in
    rw (p.1, p.2) (lacks-each c.args.working.now (λ v b. (node v i).indirect ≡ Some b) (λ v b. LooksLonger g c.args.queue v i c.args.size c.args.at c.args.count b) c.in_err-file.field-0.0
    (λ v b agrees h. indirect c.in-Some.picks.items (subst (λ (k : ℕ). ArePicked g c.args.queue v k c.in-Some.picks.items) (longer-need g pages v i c.args.size c.needs-need.result c.count_for.result c.count_for-2.result c.args.found.now.inode agrees (c.requires.file v agrees) c.needs-need.ensures c.count_for.ensures.is c.count_for-2.ensures.is)
    (rw c.in-Some.is at c.in_ok-picks.ensures.ok v agrees)) h) c.in_err-file.ensures.lack)

pub returns-in_err-look_for_all-clause-lack : goal.returns-in_err-look_for_all-clause-lack
returns-in_err-look_for_all-clause-lack c =
    let g = c.args.working.now.geometry in
    let pages = pages_of c.args.working.now in
    let i = c.args.found.now.number in
    let p = err_from_is_err_and c.from_residual-in_err-look_for_all.result c.from_residual-in_err-look_for_all.ensures.1 in
    let wanted : c.deref-3.result.now ≡ c.in-Some.picks.items ++ blocks_at c.in_ok-file.file.blocks.items (c.args.at / 4096) (past_place c.args.at c.args.count) = c.deref-3.ensures.value ∙ c.in_ok-extend_from_slice.ensures.items ∙ ap (λ (xs : List ℕ). xs ++ c.touched.result.now) (c.in_ok-wanted.ensures.items ∙ c.deref.ensures.value) ∙ ap (λ (xs : List ℕ). c.in-Some.picks.items ++ xs) (c.touched.ensures ∙ ap (λ (bs : List ℕ). blocks_at bs (c.args.at / 4096) (past_place c.args.at c.args.count)) c.deref-2.ensures.value) in
    rw (p.1, p.2) (lacks-weaker pages (Contains c.deref-3.result.now) (λ b. OfEach c.args.working.now (λ v. LooksLonger g c.args.queue v i c.args.size c.args.at c.args.count b)) c.in_err-look_for_all.field-0.0
    (λ b h v agrees. wanted-looks g c.args.queue v c.in_ok-file.file i c.args.size c.args.at c.args.count b c.in-Some.picks.items c.deref-3.result.now (c.in_ok-file.ensures.opened v agrees) c.in_ok-file.ensures.number.0
    (subst (λ (k : ℕ). ArePicked g c.args.queue v k c.in-Some.picks.items) (longer-need g pages v i c.args.size c.needs-need.result c.count_for.result c.count_for-2.result c.args.found.now.inode agrees (c.requires.file v agrees) c.needs-need.ensures c.count_for.ensures.is c.count_for-2.ensures.is) (rw c.in-Some.is at c.in_ok-picks.ensures.ok v agrees)) wanted h) c.in_err-look_for_all.ensures.lack)

pub returns-clause-ok : goal.returns-clause-ok
returns-clause-ok c v agrees verdict rewritten bytes r =
    let g = c.args.working.now.geometry in
    let pages = pages_of c.args.working.now in
    let i = c.args.found.now.number in
    let m : Rewriting = record { file = c.in_ok-file.file; picks = c.in-Some.picks; size = c.args.size } in
    let f = c.requires.file v agrees in
    longer-plan g c.args.queue pages v m i c.needs-need.result c.args.found.now.inode verdict rewritten bytes agrees c.requires.queue (c.in_ok-file.ensures.opened v agrees) c.in_ok-file.ensures.number.0 f r c.requires.longer c.requires.limit
    (longer-need g pages v i c.args.size c.needs-need.result c.count_for.result c.count_for-2.result c.args.found.now.inode agrees f c.needs-need.ensures c.count_for.ensures.is c.count_for-2.ensures.is) (rw c.in-Some.is at c.in_ok-picks.ensures.ok v agrees)

pub returns-clause-pages : goal.returns-clause-pages
returns-clause-pages c =
    let g = c.args.working.now.geometry in
    let pages = pages_of c.args.working.now in
    let p = c.requires.possible in
    let wanted : c.deref-3.result.now ≡ c.in-Some.picks.items ++ blocks_at c.in_ok-file.file.blocks.items (c.args.at / 4096) (past_place c.args.at c.args.count) = c.deref-3.ensures.value ∙ c.in_ok-extend_from_slice.ensures.items ∙ ap (λ (xs : List ℕ). xs ++ c.touched.result.now) (c.in_ok-wanted.ensures.items ∙ c.deref.ensures.value) ∙ ap (λ (xs : List ℕ). c.in-Some.picks.items ++ xs) (c.touched.ensures ∙ ap (λ (bs : List ℕ). blocks_at bs (c.args.at / 4096) (past_place c.args.at c.args.count)) c.deref-2.ensures.value) in
    let known = subst (λ (xs : List ℕ). All (λ b. pages b ≢ None) xs) wanted c.in_ok-look_for_all.ensures.ok in
    record {
      picks = takeables g c.args.queue pages p.0 c.needs-need.result c.in-Some.picks.items p.1.fits c.requires.queue (rw c.in-Some.is at c.in_ok-picks.ensures.ok p.0 p.1) (rw c.in-Some.is at c.in_ok-picks.ensures.marks)
          (all-left (λ b. pages b ≢ None) c.in-Some.picks.items _ known);
      table = subst (λ (k : ℕ). IsHeld pages (inode_block g k)) (sym c.in_ok-file.ensures.number.0) c.requires.table;
      pointers = c.in_ok-file.ensures.pointers;
    }

pub returns-clause-places : goal.returns-clause-places
returns-clause-places c =
    let p = c.requires.possible in
    let wanted : c.deref-3.result.now ≡ c.in-Some.picks.items ++ blocks_at c.in_ok-file.file.blocks.items (c.args.at / 4096) (past_place c.args.at c.args.count) = c.deref-3.ensures.value ∙ c.in_ok-extend_from_slice.ensures.items ∙ ap (λ (xs : List ℕ). xs ++ c.touched.result.now) (c.in_ok-wanted.ensures.items ∙ c.deref.ensures.value) ∙ ap (λ (xs : List ℕ). c.in-Some.picks.items ++ xs) (c.touched.ensures ∙ ap (λ (bs : List ℕ). blocks_at bs (c.args.at / 4096) (past_place c.args.at c.args.count)) c.deref-2.ensures.value) in
    wanted-places c.args.working.now.geometry (pages_of c.args.working.now) p.0 c.in_ok-file.file c.args.at c.args.count c.in-Some.picks.items c.deref-3.result.now p.1 (c.in_ok-file.ensures.opened p.0 p.1) wanted c.in_ok-look_for_all.ensures.ok
