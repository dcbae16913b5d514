use Rattle.std.proofs.Common.{ℕ, List, subst}
use Rattle.std.specs.List.{Contains}
use Rattle.std.proofs.lemmas.Result.{err_from_is_err_and}
use Rattle.mq_exec.proofs.PlansLinking.{holds-link, link-few, link-past_from, link-past_to, link-refused, link-searched, link-takes, linking, plans-link, ready}
use Rattle.mq_exec.proofs.PlansTargets.{file-refused}
use Rattle.mq_exec.proofs.WalksNewNames.{held-place}
use Rattle.mq_inodes.specs.MissingPages.{OfEach}
use Rattle.mq_inodes.specs.Pages.{pages_of}
use Rattle.mq_inodes.specs.Picks.{IsSearched}
use Rattle.mq_inodes.specs.Walks.{LeadsPast}
use Rattle.mq_inodes.proofs.MissingPages.{lacks-each, lacks-weaker}
use Rattle.mq_tree.specs.Looks.{LooksAt}
use Rattle.mq_tree.specs.Volume.{way}
use Rattle.mq_tree.specs.declared.request.Request.TheVariants.{Link}
use Rattle.mq_exec.proofs.link.plan_link.Goals as goal

pub returns-in_err-found-clause-lack : goal.returns-in_err-found-clause-lack
returns-in_err-found-clause-lack c =
    let g = c.args.working.now.geometry in
    let p = err_from_is_err_and c.from_residual.result c.from_residual.ensures.1 in
    rw (p.1, p.2) (lacks-each c.args.working.now (λ v b. LeadsPast g v (way c.args.from.now) b) (λ v b. LooksAt g c.args.queue v (Link c.args.from.now c.args.to.now) b) c.in_err-found.field-0.0
    (λ v b agrees h. link-past_from g c.args.queue v c.args.from.now c.args.to.now b h) c.in_err-found.ensures.lack)

pub returns-in-Err-clause-ok : goal.returns-in-Err-clause-ok
returns-in-Err-clause-ok c v agrees =
    link-refused c.args.working.now.geometry c.args.queue v c.args.from.now c.args.to.now c.in-Err.fault (file-refused v c.args.from.now c.in_ok-found.field-0 c.in-Err.fault c.in-Err.is (c.in_ok-found.ensures.ok v agrees))

pub returns-in_err-directory-clause-lack : goal.returns-in_err-directory-clause-lack
returns-in_err-directory-clause-lack c =
    let g = c.args.working.now.geometry in
    let p = err_from_is_err_and c.from_residual-in_err-directory.result c.from_residual-in_err-directory.ensures.1 in
    rw (p.1, p.2) (lacks-each c.args.working.now (λ v b. LeadsPast g v (way c.args.to.now) b) (λ v b. LooksAt g c.args.queue v (Link c.args.from.now c.args.to.now) b) c.in_err-directory.field-0.0
    (λ v b agrees h. link-past_to g c.args.queue v c.args.from.now c.args.to.now b h) c.in_err-directory.ensures.lack)

pub returns-in_err-picks-clause-lack : goal.returns-in_err-picks-clause-lack
returns-in_err-picks-clause-lack c =
    let g = c.args.working.now.geometry in
    let pages = pages_of c.args.working.now in
    let f = c.in-Ok.found in
    let o = c.in-In-default-None-default.directory in
    let r = ready pages f o c.deref.result.now c.deref-2.result.now c.is_full.result c.link_need-need.result c.deref.ensures.value c.is_full.ensures c.if-is_full.false c.if-file.false c.deref-2.ensures.value c.link_need-need.ensures in
    let p = err_from_is_err_and c.from_residual-in_err-picks.result c.from_residual-in_err-picks.ensures.1 in
    rw (p.1, p.2) (lacks-each c.args.working.now (λ v b. IsSearched g c.args.queue v c.link_need-need.result b) (λ v b. LooksAt g c.args.queue v (Link c.args.from.now c.args.to.now) b) c.in_err-picks.field-0.0
    (λ v b agrees h.
    let m = linking c.args.working.now v c.args.from.now c.args.to.now c.in_ok-found.field-0 f c.in_ok-directory.field-0 o c.in-In-default-None-default.found c.in-In-default-None-default.unused agrees c.in-Ok.is (c.in_ok-found.ensures.ok v agrees) c.in-In-default-None-default.is c.in-In-default-None-default.found-is
    c.in_ok-directory.ensures.holds (c.in_ok-directory.ensures.ok v agrees) c.requires.names c.requires.new_names in
    link-searched g c.args.queue pages v c.args.from.now c.args.to.now f o c.link_need-need.result b m r h) c.in_err-picks.ensures.lack)

pub returns-in_default-clause-ok : goal.returns-in_default-clause-ok
returns-in_default-clause-ok c v agrees =
    let g = c.args.working.now.geometry in
    let pages = pages_of c.args.working.now in
    let f = c.in-Ok.found in
    let o = c.in-In-default-None-default.directory in
    let r = ready pages f o c.deref.result.now c.deref-2.result.now c.is_full.result c.link_need-need.result c.deref.ensures.value c.is_full.ensures c.if-is_full.false c.if-file.false c.deref-2.ensures.value c.link_need-need.ensures in
    let m = linking c.args.working.now v c.args.from.now c.args.to.now c.in_ok-found.field-0 f c.in_ok-directory.field-0 o c.in-In-default-None-default.found c.in-In-default-None-default.unused agrees c.in-Ok.is (c.in_ok-found.ensures.ok v agrees) c.in-In-default-None-default.is c.in-In-default-None-default.found-is
    c.in_ok-directory.ensures.holds (c.in_ok-directory.ensures.ok v agrees) c.requires.names c.requires.new_names in
    link-few g c.args.queue pages v c.args.from.now c.args.to.now f o c.link_need-need.result m r (rw c.in_default.is at c.in_ok-picks.ensures.ok v agrees)

pub returns-in_err-look_for_all-clause-lack : goal.returns-in_err-look_for_all-clause-lack
returns-in_err-look_for_all-clause-lack c =
    let g = c.args.working.now.geometry in
    let pages = pages_of c.args.working.now in
    let f = c.in-Ok.found in
    let o = c.in-In-default-None-default.directory in
    let r = ready pages f o c.deref.result.now c.deref-2.result.now c.is_full.result c.link_need-need.result c.deref.ensures.value c.is_full.ensures c.if-is_full.false c.if-file.false c.deref-2.ensures.value c.link_need-need.ensures in
    let p = err_from_is_err_and c.from_residual-in_err-look_for_all.result c.from_residual-in_err-look_for_all.ensures.1 in
    rw (p.1, p.2) (lacks-weaker pages (Contains c.deref-3.result.now) (λ b. OfEach c.args.working.now (λ v. LooksAt g c.args.queue v (Link c.args.from.now c.args.to.now) b)) c.in_err-look_for_all.field-0.0
    (λ b h v agrees.
    let m = linking c.args.working.now v c.args.from.now c.args.to.now c.in_ok-found.field-0 f c.in_ok-directory.field-0 o c.in-In-default-None-default.found c.in-In-default-None-default.unused agrees c.in-Ok.is (c.in_ok-found.ensures.ok v agrees) c.in-In-default-None-default.is c.in-In-default-None-default.found-is
    c.in_ok-directory.ensures.holds (c.in_ok-directory.ensures.ok v agrees) c.requires.names c.requires.new_names in
    link-takes g c.args.queue pages v c.args.from.now c.args.to.now f o c.link_need-need.result b c.in-Some.picks.items c.requires.queue m r (rw c.in-Some.is at c.in_ok-picks.ensures.ok v agrees) (subst (λ (bs : List ℕ). Contains bs b) c.deref-3.ensures.value h)) c.in_err-look_for_all.ensures.lack)

pub returns-clause-ok : goal.returns-clause-ok
returns-clause-ok c v agrees =
    let g = c.args.working.now.geometry in
    let pages = pages_of c.args.working.now in
    let f = c.in-Ok.found in
    let o = c.in-In-default-None-default.directory in
    let r = ready pages f o c.deref.result.now c.deref-2.result.now c.is_full.result c.link_need-need.result c.deref.ensures.value c.is_full.ensures c.if-is_full.false c.if-file.false c.deref-2.ensures.value c.link_need-need.ensures in
    let m = linking c.args.working.now v c.args.from.now c.args.to.now c.in_ok-found.field-0 f c.in_ok-directory.field-0 o c.in-In-default-None-default.found c.in-In-default-None-default.unused agrees c.in-Ok.is (c.in_ok-found.ensures.ok v agrees) c.in-In-default-None-default.is c.in-In-default-None-default.found-is
    c.in_ok-directory.ensures.holds (c.in_ok-directory.ensures.ok v agrees) c.requires.names c.requires.new_names in
    plans-link g c.args.queue pages v c.args.from.now c.args.to.now c.link_need-need.result (record { file = f; directory = o; picks = c.in-Some.picks }) c.requires.queue m r (rw c.in-Some.is at c.in_ok-picks.ensures.ok v agrees)

pub returns-clause-pages : goal.returns-clause-pages
returns-clause-pages c =
    let w = c.args.working.now in
    let o = c.in-In-default-None-default.directory in
    let p = c.requires.possible in
    let held = held-place w c.in_ok-directory.field-0 o c.in-In-default-None-default.found c.in-In-default-None-default.unused c.in-In-default-None-default.is c.in_ok-directory.ensures.holds in
    holds-link w c.args.queue p.0 c.link_need-need.result c.deref-3.result.now (record { file = c.in-Ok.found; directory = o; picks = c.in-Some.picks }) p.1 c.requires.queue held.directory (rw c.in-Ok.is at c.in_ok-found.ensures.held)
    (rw c.in-Some.is at c.in_ok-picks.ensures.ok p.0 p.1) (rw c.in-Some.is at c.in_ok-picks.ensures.marks) c.deref-3.ensures.value c.in_ok-look_for_all.ensures.ok
