-- A group that was done on a map does there what its entry says, and may be drawn.
use Rattle.std.proofs.Common.{◌≡◌, ◌↔◌, ℕ, ◌+◌, ◌<◌, ◌≤◌, true, List, [], ◌∷◌, length, map, Option, Some, None, is_none, refl, sym, ap, subst, ◌∙◌}
use Rattle.std.specs.List.{All}
use Rattle.std.proofs.lemmas.List.Elements.{All-append, All-cons, All-nil}
use lib.ListN.{length-map}
use Rattle.mq_blocks.specs.Descriptor.{AreRising}
use Rattle.mq_blocks.specs.Geometry.{homes_of, queues_of, write_limit}
use Rattle.mq_blocks.specs.Machine.{Map}
use Rattle.mq_blocks.specs.declared.geometry.Geometry.{Geometry}
use Rattle.mq_blocks.proofs.JournalAmong.{among-contains, contains-among}
use Rattle.mq_exec.specs.Moves.{IsChangeOf, KeepsRest, Moves}
use Rattle.mq_exec.specs.declared.outcome.Done.{Done}
use Rattle.mq_exec.proofs.MovesResting.{laid-after}
use Rattle.mq_calls.specs.Entries.{RanUndrawn, Changes, Does, IsAllLogged, IsUndrawn, Ran, freed_by, tx_of, volume_after, written_by}
use Rattle.mq_calls.specs.EntryLaws.{blocks_in}
use Rattle.mq_calls.specs.Plans.{DoneOn, HasNumber, IsEntryOf, IsPlanned, map_known, planned_by}
use Rattle.mq_calls.specs.declared.entry.FileEntry.{FileEntry}
use Rattle.mq_calls.proofs.LawsChanging.{freed_there, frees_apart, frees_rise, whole_writes, writes_rise}
use Rattle.mq_sessions.proofs.LawsWritten.{all, only, whole_in}
use Rattle.mq_ledger.specs.History.{change_of, map_after}
use Rattle.mq_ledger.specs.KnownJournal.{KnownJournal}
use Rattle.mq_ledger.specs.declared.tx.Tx.{Tx}
use Rattle.mq_pages.specs.declared.page.Write.{Write}
use Rattle.mq_revoke.specs.Guard.{IsOfHistory, MeetsRest, placed_of}
use Rattle.mq_revoke.specs.Placed.{Placed}
use Rattle.mq_revoke.specs.Placing.{AreInOrder, IsPlacement}
use Rattle.mq_revoke.specs.declared.placement.Planned.{Planned}
use Rattle.mq_revoke.proofs.Placed.{lists_of}
use Rattle.mq_desk_laws.specs.Rule.{numbered}
use Rattle.mq_queue_side.specs.Commits.{IsPlanOf, commit_by, commit_of_tx, written_in}
use Rattle.mq_queue_side.proofs.Parts.{direct_blocks, logged_blocks}
use Rattle.mq_queue_side.proofs.CommitsPlans.{planned}
use Rattle.mq_tree.specs.Requests.{after_group, replies}
use Rattle.mq_tree.specs.Sound.{IsSound}
use Rattle.mq_tree.specs.declared.request.Request.{Request}

-- ---- before there is an entry

pub done_rises : (g : Geometry) (session : ℕ) (m : Map) (requests : List Request) (done : Done) → DoneOn g session m requests done → AreRising 0 (homes_of g) (blocks_in done.writes.items)
done_rises g session m requests done d = writes_rise g m d.volume (after_group g session d.volume requests) done.writes.items done.frees.items d.laid d.is.moves

pub done_planned : (g : Geometry) (session front base : ℕ) (m : Map) (requests : List Request) (done : Done) (writes : List Planned) (plan : Placed) → DoneOn g session m requests done → map (λ w. w.block) writes ≡ blocks_in done.writes.items → IsPlacement g session front base writes plan → IsPlanOf (homes_of g) (blocks_in done.writes.items) plan
done_planned g session front base m requests done writes plan d blocks placed =
    let order : AreInOrder g writes = subst (λ (bs : List ℕ). AreRising 0 (homes_of g) bs) (sym blocks) (done_rises g session m requests done d) in
    subst (λ (bs : List ℕ). IsPlanOf (homes_of g) bs plan) blocks (planned g session front base writes plan order placed)

-- ---- what an entry says

pub tells_commit : (session : ℕ) (requests : List Request) (done : Done) (plan : Placed) (e : FileEntry) → IsEntryOf session requests done e → e.placed ≡ plan → commit_of_tx (tx_of e) ≡ commit_by plan done.writes.items
tells_commit session requests done plan e is placed = ap (λ (p : Placed). commit_by p (written_by e)) placed ∙ ap (λ (ws : List Write). commit_by plan ws) is.writes_are

pub placed_as : (homes : ℕ) (e : FileEntry) → IsPlanOf homes (blocks_in (written_by e)) e.placed → placed_of (tx_of e) ≡ e.placed
placed_as homes e is =
    ap (λ (xs : List ℕ). lists_of xs (map (λ w. w.0) (written_in e.placed.direct (written_by e))) e.placed.revoked) (logged_blocks homes (written_by e) e.placed is)
    ∙ ap (λ (xs : List ℕ). lists_of e.placed.logged xs e.placed.revoked) (direct_blocks homes (written_by e) e.placed is)

pub tells_plan : (session homes : ℕ) (requests : List Request) (done : Done) (plan : Placed) (e : FileEntry) → IsEntryOf session requests done e → e.placed ≡ plan → IsPlanOf homes (blocks_in done.writes.items) plan → placed_of (tx_of e) ≡ plan
tells_plan session homes requests done plan e is placed of =
    let here : IsPlanOf homes (blocks_in (written_by e)) plan = subst (λ (ws : List Write). IsPlanOf homes (blocks_in ws) plan) (sym is.writes_are) of in
    placed_as homes e (subst (λ (p : Placed). IsPlanOf homes (blocks_in (written_by e)) p) (sym placed) here) ∙ placed

-- ---- what a done group does

module _ (g : Geometry) (m : Map) (requests : List Request) (done : Done) (e : FileEntry) (d : DoneOn g e.session m requests done) (is : IsEntryOf e.session requests done e) where
  abbrev ws : List Write
  ws = written_by e

  abbrev fs : List ℕ
  fs = freed_by e

  -- what was said of the outcome is said of the entry
  of_entry : (says : List Request → List Write → List ℕ → Type 0) → says requests done.writes.items done.frees.items → says e.requests ws fs
  of_entry says h =
      subst (λ (rs : List Request). says rs ws fs) (sym is.requests_are)
      (subst (λ (xs : List Write). says requests xs fs) (sym is.writes_are)
      (subst (λ (xs : List ℕ). says requests done.writes.items xs) (sym is.frees_are) h))

  moved : Moves g d.volume (volume_after g d.volume e) ws fs
  moved = of_entry (λ rs xs bs. Moves g d.volume (after_group g e.session d.volume rs) xs bs) d.is.moves

  left : KeepsRest g d.volume (volume_after g d.volume e) ws fs
  left = of_entry (λ rs xs bs. KeepsRest g d.volume (after_group g e.session d.volume rs) xs bs) d.is.rest

  sound : IsSound g (volume_after g d.volume e)
  sound = of_entry (λ rs xs bs. IsSound g (after_group g e.session d.volume rs)) d.is.sound

  pub ran : e.session < queues_of g → Ran g m e
  ran queue = record {
    volume = d.volume;
    laid = d.laid;
    queue = queue;
    answered = is.replies_are ∙ d.is.replies ∙ ap (λ (rs : List Request). replies g e.session d.volume rs) (sym is.requests_are);
    moves = moved;
  }

  pub asks : e.session < queues_of g → IsUndrawn g done.writes.items done.frees.items → IsAllLogged e → RanUndrawn g m e
  asks queue undrawn placed = record { ran = ran queue; undrawn = of_entry (λ rs xs bs. IsUndrawn g xs bs) undrawn; placed = placed }

  change : IsPlanOf (homes_of g) (blocks_in ws) e.placed → IsChangeOf (change_of (tx_of e)) ws fs
  change plan = record {
    only = λ b page found. only (homes_of g) ws e.placed plan b page found;
    all = λ x c. all (homes_of g) ws e.placed plan x c;
    freed = λ b. (among-contains fs b, contains-among fs b);
  }

  pub does : Changes done.writes.items done.frees.items → e.session < queues_of g → IsPlanOf (homes_of g) (blocks_in ws) e.placed → Does g m e
  unfolding ran
  does changes queue plan = record {
    ran = ran queue;
    changes = of_entry (λ rs xs bs. Changes xs bs) changes;
    change = change plan;
    next = laid-after g m d.volume (volume_after g d.volume e) ws fs (change_of (tx_of e)) d.laid sound moved left (change plan);
  }

-- ---- a draw

blocks_planned : (start : Map) (base : ℕ) (txs : List Tx) (ws : List Write) → map (λ p. p.block) (map (planned_by start base txs) ws) ≡ blocks_in ws
blocks_planned start base txs [] = refl
blocks_planned start base txs (w ∷ ws) = ap (λ (bs : List ℕ). w.block ∷ bs) (blocks_planned start base txs ws)

free_is : (o : Option (List ℕ)) → (is_none o ≡ true) ↔ (o ≡ None)
free_is None = ((λ e. refl), λ e. refl)
free_is (Some block) = ((λ e. absurd cc), λ e. absurd cc)

of_history : (k : KnownJournal) (ws : List Write) → All (IsOfHistory k) (map (planned_by k.start k.base k.history) ws)
of_history k [] = All-nil (IsOfHistory k)
of_history k (w ∷ ws) = All-cons (IsOfHistory k) (planned_by k.start k.base k.history w) (map (planned_by k.start k.base k.history) ws) (record { was_free = free_is (map_after k.start k.history w.block); version = refl; last_logged = refl }) (of_history k ws)

module _ (k : KnownJournal) (requests : List Request) (done : Done) (e : FileEntry) (d : DoneOn k.geometry e.session (map_known k) requests done) (is : IsEntryOf e.session requests done e) (p : IsPlanned k e) where
  abbrev gk : Geometry
  gk = k.geometry

  abbrev us : List Write
  us = written_by e

  -- what is planned with
  abbrev pub ps : List Planned
  ps = map (planned_by k.start k.base k.history) us

  blocks : map (λ w. w.block) ps ≡ blocks_in done.writes.items
  blocks = blocks_planned k.start k.base k.history us ∙ ap blocks_in is.writes_are

  pub few : length ps ≤ write_limit k.geometry
  few = subst (λ (n : ℕ). n ≤ write_limit k.geometry) (sym (length-map us (planned_by k.start k.base k.history))) p.few

  pub told : All (IsOfHistory k) ps
  told = of_history k us

  -- the entry's plan is one of its writes
  pub plans : IsPlanOf (homes_of gk) (blocks_in us) e.placed
  plans = subst (λ (ws : List Write). IsPlanOf (homes_of gk) (blocks_in ws) e.placed) (sym is.writes_are) (done_planned gk e.session e.reads.front e.reads.base (map_known k) requests done ps e.placed d blocks p.placed)

  pub in_order : AreInOrder gk ps
  in_order = subst (λ (bs : List ℕ). AreRising 0 (homes_of gk) bs) (sym blocks) (done_rises gk e.session (map_known k) requests done d)

  abbrev pub drawn : Tx
  drawn = numbered (k.base + length k.history + 1) (tx_of e)

  pub placement : IsPlacement gk e.session e.reads.front e.reads.base ps (placed_of drawn)
  placement = subst (λ (x : Placed). IsPlacement gk e.session e.reads.front e.reads.base ps x) (sym (placed_as (homes_of gk) e plans)) p.placed

  moved_here : Moves gk d.volume (volume_after gk d.volume e) us (freed_by e)
  moved_here = moved gk (map_known k) requests done e d is

  pub meets : HasNumber k e → MeetsRest k drawn
  meets n = record {
    queue = n.queue;
    number = refl;
    limit = n.limit;
    whole = All-append (λ (w : ℕ × List ℕ). length w.1 ≡ 4096) (written_in e.placed.logged us) (written_in e.placed.direct us)
        (whole_in e.placed.logged us (whole_writes gk (map_known k) d.volume (volume_after gk d.volume e) us (freed_by e) d.laid moved_here))
        (whole_in e.placed.direct us (whole_writes gk (map_known k) d.volume (volume_after gk d.volume e) us (freed_by e) d.laid moved_here));
    freed = frees_rise gk (map_known k) d.volume (volume_after gk d.volume e) us (freed_by e) d.laid moved_here;
    kept = frees_apart gk (map_known k) d.volume (volume_after gk d.volume e) us (freed_by e) d.laid moved_here e.placed plans;
    there = freed_there gk (map_known k) d.volume (volume_after gk d.volume e) us (freed_by e) d.laid moved_here;
  }
