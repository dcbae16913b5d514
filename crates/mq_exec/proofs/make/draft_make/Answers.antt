use Rattle.std.proofs.Common.{◌≡◌, ◌<◌, Bool, ℕ, List, refl, sym, ap, subst, ◌∙◌, length}
use Rattle.std.specs.Prelude.{Option}
use Rattle.std.proofs.lemmas.Result.{err_from_is_err_and}
use Rattle.mq_exec.specs.Plans.{make_request}
use Rattle.mq_exec.specs.declared.make.Creation.{Creation}
use Rattle.mq_exec.proofs.PlansCreationLooks.{make-few, make-marks, make-past, make-searched, make-wanted, need-at, planned, plans-make, ready}
use Rattle.mq_exec.proofs.WalksNewNames.{held-place, new-placed}
use Rattle.mq_inodes.specs.Pages.{pages_of}
use Rattle.mq_inodes.specs.Picks.{IsSearched}
use Rattle.mq_inodes.specs.Bare.{empty_body}
use Rattle.mq_inodes.specs.Walks.{LeadsPast}
use Rattle.mq_inodes.proofs.MissingPages.{lacks-each}
use Rattle.mq_layout.specs.Places.{inode_bitmap}
use Rattle.mq_tree.specs.Free.{free_blocks}
use Rattle.mq_tree.specs.Looks.{LooksAt}
use Rattle.mq_tree.specs.Requests.{entry_needs}
use Rattle.mq_tree.specs.Volume.{way}
use Rattle.mq_exec.proofs.make.draft_make.Goals as goal

pub returns-in_err-directory-clause-lack : goal.returns-in_err-directory-clause-lack
returns-in_err-directory-clause-lack c =
    let g = c.args.working.now.geometry in
    let p = err_from_is_err_and c.from_residual.result c.from_residual.ensures.1 in
    rw (p.1, p.2) (lacks-each c.args.working.now (λ v b. LeadsPast g v (way c.args.path.now) b) (λ v b. (t : Bool) → LooksAt g c.args.queue v (make_request t c.args.path.now) b) c.in_err-directory.field-0.0
    (λ v b agrees h t. make-past g c.args.queue v t c.args.path.now b h) c.in_err-directory.ensures.lack)

pub returns-in_err-inode-clause-lack : goal.returns-in_err-inode-clause-lack
returns-in_err-inode-clause-lack c =
    let g = c.args.working.now.geometry in
    let w = way c.args.path.now in
    let o = c.in-In-default-None-default.directory in
    let pages = pages_of c.args.working.now in
    let held = held-place c.args.working.now c.in_ok-directory.field-0 o c.in-In-default-None-default.found c.in-In-default-None-default.unused c.in-In-default-None-default.is c.in_ok-directory.ensures.holds in
    let p = err_from_is_err_and c.from_residual-in_err-inode.result c.from_residual-in_err-inode.ensures.1 in
    rw (p.1, p.2) (lacks-each c.args.working.now (λ v b. b ≡ inode_bitmap g) (λ v b. (t : Bool) → LooksAt g c.args.queue v (make_request t c.args.path.now) b) c.in_err-inode.field-0.0
    (λ v b agrees h t.
    let n = new-placed g v w c.in_ok-directory.field-0 o c.in-In-default-None-default.found c.in-In-default-None-default.unused agrees.sound c.in-In-default-None-default.is c.in-In-default-None-default.found-is (c.in_ok-directory.ensures.ok v agrees) in
    make-marks g c.args.queue v t c.args.path.now o.number b agrees.sound (ready pages v c.args.path.now o o.number c.deref.result.now c.is_full.result n refl (held.directory.slots v agrees) c.deref.ensures.value c.is_full.ensures c.if-is_full.false c.requires.names) h) c.in_err-inode.ensures.lack)

pub returns-in_err-picks-clause-lack : goal.returns-in_err-picks-clause-lack
returns-in_err-picks-clause-lack c =
    let g = c.args.working.now.geometry in
    let w = way c.args.path.now in
    let o = c.in-In-default-None-default.directory in
    let pages = pages_of c.args.working.now in
    let held = held-place c.args.working.now c.in_ok-directory.field-0 o c.in-In-default-None-default.found c.in-In-default-None-default.unused c.in-In-default-None-default.is c.in_ok-directory.ensures.holds in
    let p = err_from_is_err_and c.from_residual-in_err-picks.result c.from_residual-in_err-picks.ensures.1 in
    let need = c.name_need-need.ensures ∙ ap (λ (bs : List ℕ). entry_needs (length bs) c.in-In-default-None-default.unused) c.deref-2.ensures.value ∙ ap (λ (u : Option ℕ). entry_needs (length o.blocks.items) u) (held.slot c.in-In-default-None-default.found-is) in
    rw (p.1, p.2) (lacks-each c.args.working.now (λ v b. IsSearched g c.args.queue v c.name_need-need.result b) (λ v b. (t : Bool) → LooksAt g c.args.queue v (make_request t c.args.path.now) b) c.in_err-picks.field-0.0
    (λ v b agrees h t.
    let n = new-placed g v w c.in_ok-directory.field-0 o c.in-In-default-None-default.found c.in-In-default-None-default.unused agrees.sound c.in-In-default-None-default.is c.in-In-default-None-default.found-is (c.in_ok-directory.ensures.ok v agrees) in
    let r = ready pages v c.args.path.now o o.number c.deref.result.now c.is_full.result n refl (held.directory.slots v agrees) c.deref.ensures.value c.is_full.ensures c.if-is_full.false c.requires.names in
    make-searched g c.args.queue v t c.args.path.now o.number c.in-Some.inode c.name_need-need.result b r (sym (c.in_ok-inode.ensures.ok v agrees) ∙ c.in-Some.is)
    (need-at g pages v o o.number c.name_need-need.result (held.directory.opened v agrees) refl (held.directory.slots v agrees) need) h) c.in_err-picks.ensures.lack)

pub returns-in_default-2-clause-ok : goal.returns-in_default-2-clause-ok
returns-in_default-2-clause-ok c v agrees t =
    let g = c.args.working.now.geometry in
    let w = way c.args.path.now in
    let o = c.in-In-default-None-default.directory in
    let pages = pages_of c.args.working.now in
    let held = held-place c.args.working.now c.in_ok-directory.field-0 o c.in-In-default-None-default.found c.in-In-default-None-default.unused c.in-In-default-None-default.is c.in_ok-directory.ensures.holds in
    let need = c.name_need-need.ensures ∙ ap (λ (bs : List ℕ). entry_needs (length bs) c.in-In-default-None-default.unused) c.deref-2.ensures.value ∙ ap (λ (u : Option ℕ). entry_needs (length o.blocks.items) u) (held.slot c.in-In-default-None-default.found-is) in
    let n = new-placed g v w c.in_ok-directory.field-0 o c.in-In-default-None-default.found c.in-In-default-None-default.unused agrees.sound c.in-In-default-None-default.is c.in-In-default-None-default.found-is (c.in_ok-directory.ensures.ok v agrees) in
    let r = ready pages v c.args.path.now o o.number c.deref.result.now c.is_full.result n refl (held.directory.slots v agrees) c.deref.ensures.value c.is_full.ensures c.if-is_full.false c.requires.names in
    let same = need-at g pages v o o.number c.name_need-need.result (held.directory.opened v agrees) refl (held.directory.slots v agrees) need in
    make-few g c.args.queue v (empty_body t) c.args.path.now o.number c.in-Some.inode r (sym (c.in_ok-inode.ensures.ok v agrees) ∙ c.in-Some.is) (let few = rw c.in_default-2.is at c.in_ok-picks.ensures.ok v agrees in subst (λ (k : ℕ). free_blocks g v < k) same few)

pub returns-clause-ok : goal.returns-clause-ok
returns-clause-ok c v agrees t =
    let g = c.args.working.now.geometry in
    let w = way c.args.path.now in
    let o = c.in-In-default-None-default.directory in
    let pages = pages_of c.args.working.now in
    let held = held-place c.args.working.now c.in_ok-directory.field-0 o c.in-In-default-None-default.found c.in-In-default-None-default.unused c.in-In-default-None-default.is c.in_ok-directory.ensures.holds in
    let need = c.name_need-need.ensures ∙ ap (λ (bs : List ℕ). entry_needs (length bs) c.in-In-default-None-default.unused) c.deref-2.ensures.value ∙ ap (λ (u : Option ℕ). entry_needs (length o.blocks.items) u) (held.slot c.in-In-default-None-default.found-is) in
    let n = new-placed g v w c.in_ok-directory.field-0 o c.in-In-default-None-default.found c.in-In-default-None-default.unused agrees.sound c.in-In-default-None-default.is c.in-In-default-None-default.found-is (c.in_ok-directory.ensures.ok v agrees) in
    let r = ready pages v c.args.path.now o o.number c.deref.result.now c.is_full.result n refl (held.directory.slots v agrees) c.deref.ensures.value c.is_full.ensures c.if-is_full.false c.requires.names in
    let m : Creation = record { directory = o; inode = c.in-Some.inode; picks = c.in-Some-2.picks; unused = c.in-In-default-None-default.unused } in
    plans-make g c.args.queue v t c.args.path.now m agrees.sound (planned g c.args.queue pages v c.args.path.now m o.number c.name_need-need.result c.in_ok-inode.field-0 agrees.sound c.requires.queue r refl
    (held.directory.opened v agrees) (held.directory.slots v agrees) (c.in_ok-inode.ensures.ok v agrees) c.in-Some.is need (rw c.in-Some-2.is at c.in_ok-picks.ensures.ok v agrees))

pub returns-clause-wanted : goal.returns-clause-wanted
returns-clause-wanted c v agrees b h t =
    let g = c.args.working.now.geometry in
    let w = way c.args.path.now in
    let o = c.in-In-default-None-default.directory in
    let pages = pages_of c.args.working.now in
    let held = held-place c.args.working.now c.in_ok-directory.field-0 o c.in-In-default-None-default.found c.in-In-default-None-default.unused c.in-In-default-None-default.is c.in_ok-directory.ensures.holds in
    let need = c.name_need-need.ensures ∙ ap (λ (bs : List ℕ). entry_needs (length bs) c.in-In-default-None-default.unused) c.deref-2.ensures.value ∙ ap (λ (u : Option ℕ). entry_needs (length o.blocks.items) u) (held.slot c.in-In-default-None-default.found-is) in
    let n = new-placed g v w c.in_ok-directory.field-0 o c.in-In-default-None-default.found c.in-In-default-None-default.unused agrees.sound c.in-In-default-None-default.is c.in-In-default-None-default.found-is (c.in_ok-directory.ensures.ok v agrees) in
    let r = ready pages v c.args.path.now o o.number c.deref.result.now c.is_full.result n refl (held.directory.slots v agrees) c.deref.ensures.value c.is_full.ensures c.if-is_full.false c.requires.names in
    let plan = planned g c.args.queue pages v c.args.path.now (record { directory = o; inode = c.in-Some.inode; picks = c.in-Some-2.picks; unused = c.in-In-default-None-default.unused }) o.number c.name_need-need.result c.in_ok-inode.field-0 agrees.sound c.requires.queue r refl
    (held.directory.opened v agrees) (held.directory.slots v agrees) (c.in_ok-inode.ensures.ok v agrees) c.in-Some.is need (rw c.in-Some-2.is at c.in_ok-picks.ensures.ok v agrees) in
    make-wanted g c.args.queue v t c.args.path.now o c.in-Some.inode c.in-Some-2.picks.items b agrees.sound r plan.first plan.link h

pub returns-clause-pages : goal.returns-clause-pages
returns-clause-pages c =
    let held = held-place c.args.working.now c.in_ok-directory.field-0 c.in-In-default-None-default.directory c.in-In-default-None-default.found c.in-In-default-None-default.unused c.in-In-default-None-default.is c.in_ok-directory.ensures.holds in
    record {
      dirs = held.directory.dirs;
      few = held.directory.few;
      table = held.directory.table;
      pointers = held.directory.pointers;
      picks = rw c.in-Some-2.is at c.in_ok-picks.ensures.marks;
      marks = c.in_ok-inode.ensures.held;
      slot = held.slot c.in-In-default-None-default.found-is;
    }
