-- The transaction that a refusal names is a commit among the lines, and no image of the ports at the end
-- reaches it.
use Rattle.std.proofs.Common.{◌≡◌, ◌∙◌, ℕ, ◌+◌, ◌<◌, ◌≤◌, Bool, true, false, cond, List, [], ◌∷◌, length, map, inl, inr, refl, sym, ap, subst, arith}
use Rattle.std.specs.Prelude.{Err, Option, Some, reverse, slice_get}
use Rattle.std.specs.List.{All, Contains}
use Rattle.std.proofs.lemmas.Bool.{eq-eqb, true≢false}
use Rattle.std.proofs.lemmas.List.{length-reverse}
use Rattle.std.proofs.lemmas.Option.{get_or_from_slice_get}
use Rattle.mq_nvme.specs.Says.{journal_reading}
use Rattle.mq_blocks.specs.Descriptor.{Descriptor}
use Rattle.mq_blocks.specs.Drive.{IsImage, PortImage, PortState, staged_end}
use Rattle.mq_blocks.specs.Journal.{image_at, shown}
use Rattle.mq_blocks.specs.declared.command.Command.{Command}
use Rattle.mq_blocks.specs.declared.geometry.Geometry.{Geometry}
use Rattle.mq_core.proofs.StateCuts.{cut_of}
use Rattle.mq_queue_side.specs.declared.answers.CallCause.TheVariants.{Drive}
use Rattle.mq_queue_side.specs.declared.answers.Refusal.{Refusal}
use Rattle.mq_drive.specs.Steps.{PortFault}
use Rattle.mq_drive.specs.declared.port.Port.{Ghosts}
use Rattle.mq_drive.specs.declared.port.Ports.{Ports}
use Rattle.mq_state_laws.specs.Parts.{least_marks, state_with}
use Rattle.mq_calls.specs.Group.{file_group}
use Rattle.mq_calls.specs.declared.entry.FileEntry.{FileEntry}
use Rattle.mq_journal.specs.Draining.{report_of}
use Rattle.mq_journal.specs.Numbers.{Shared}
use Rattle.mq_journal.specs.Values.{Shows, side_values}
use Rattle.mq_ledger.proofs.History.{at_most, at_numbered}
use Rattle.mq_ledger.specs.History.{of_queue, writes}
use Rattle.mq_ledger.specs.Items.{descriptor_blocks, end_of}
use Rattle.mq_ledger.specs.State as machine
use Rattle.mq_ledger.specs.State.{State, no_port, port_at}
use Rattle.mq_ledger.specs.declared.tx.Tx.{Tx}
use Rattle.mq_run_laws.specs.Answers.{IsPortCause, IsUndone}
use Rattle.mq_pmr.specs.Queue.{times}
use Rattle.mq_recover.specs.Drives.{AreImages, drive_of}
use Rattle.mq_recover.specs.Recovery.{IsReadPrefix}
use Rattle.mq_recover.specs.declared.standing.Standing.{Standing}
use Rattle.mq_report.specs.declared.line.Line.{Line}
use Rattle.mq_report.specs.declared.line.Told.{Told}
use Rattle.mq_desk_laws.proofs.RuleSettled.{entry_at}
use Rattle.mq_desk_laws.specs.Faults.{reports_of}
use Rattle.mq_desk_laws.specs.Rule.{IsOfPort, IsOfRoot, IsSide, core_of, doorbell_of, geometry_of, own_of}
use Rattle.mq_desk_laws.specs.Values.{Values}
use Rattle.mq_script.specs.Scripts.{Script}
use Rattle.mq_queue_side.specs.Laws.{NamesTransaction}
use Rattle.mq_queue_side.specs.declared.answers.Cause.{Cause}
use Rattle.mq_queue_side.specs.Side.{HasTx}
use Rattle.mq_queue_side.specs.declared.answers.Cause.TheVariants.{Failed, FailedHome, Off, Stopped}
use Rattle.mq_queue_side.specs.declared.answers.Why.{Why}
use Rattle.mq_queue_side.specs.declared.answers.Why.TheVariants as why
use Rattle.mq_queue_side.specs.declared.root.Root.{Root}
use Rattle.mq_queue_side.specs.declared.side.QueueSide.{QueueSide}
use Rattle.mq_tie.proofs.BackedCharges.{holds-of}
use Rattle.mq_tie.proofs.EndedParts.{there as found}
use Rattle.mq_tie.specs.Runs.{ports_of}
use Rattle.mq_turns.specs.Desk.{charged_of}
use Rattle.mq_turns.specs.Lists.{Each}
use Rattle.mq_turns.specs.Words.{same_turn}
use Rattle.mq_turns.specs.declared.rule.Charge.{Charge}
use Rattle.mq_turns.specs.declared.rule.Report.{Report}
use Rattle.mq_turns.specs.declared.turn.Turn.{Turn}
use Rattle.mq_turns.specs.declared.turn.Turn.TheVariants.{Side}
use Rattle.mq_turns.specs.declared.turn.Turn.TheVariants as turn
use Rattle.mq_run.specs.Playing.{IsShort}
use Rattle.mq_run.specs.Runs.{HasRunScripts}
use Rattle.mq_run.specs.declared.end.RunEnd.{RunEnd}
use Rattle.mq_run_laws.specs.Causes.{IsOfCommand, IsQueueCommit}
use Rattle.mq_run_laws.proofs.BackedBlames.{charge_for, is-charged}
use Rattle.mq_run_laws.proofs.Cuts.{ends, many-txs, parts}
use Rattle.mq_run_laws.proofs.LinesNumbered.{entry-at, once-at}
use Rattle.mq_run.proofs.LinesGrowing.{image_at as map_at}
use Rattle.mq_run_laws.proofs.JournalReached.{above-reached}
use Rattle.mq_run_laws.proofs.ItemsUndone.{IsUndoneOn, undone-shown}
use Rattle.mq_run_laws.proofs.RunsWhole.{has-line, line-in, session-of, shape-is}

-- what holds of each report of a queue's port holds of each charge that is made of it
module _ (q : ℕ) (R : Report → Type 0) where
  abbrev Charged : List Charge → Type 0
  Charged cs = Each (λ c. c.port ≡ Side q → R c.report) cs

  each-charge : (cs : List Charge) → Each R (reports_of (Side q) cs) → Charged cs
  each-charge [] each = tt
  each-charge (c ∷ cs) each = by (each-charge cs) (same_turn (Side q) c.port) refl each
    where
      by : (Each R (reports_of (Side q) cs) → Charged cs) → (b : Bool) → same_turn (Side q) c.port ≡ b → Each R (cond b (c.report ∷ reports_of (Side q) cs) (reports_of (Side q) cs)) → Charged (c ∷ cs)
      by rest true own each = ((λ is. each.0), rest each.1)
      by rest false other each = ((λ is. absurd (true≢false (sym (eq-eqb q q refl) ∙ (ap (same_turn (Side q)) (sym is) ∙ other)))), rest each)

-- a side shows a failed command of the transaction that such a refusal names
failed-named : (from : ℕ) (us : List Tx) (doorbell : ℕ) (failed : List Command) (kept : Option (ℕ × Why)) (cause : Cause) (n : ℕ) → IsOfCommand cause n → Shows from us doorbell failed kept (report_of cause) → HasTx n failed
failed-named from us doorbell failed kept Off n of shows = absurd of
failed-named from us doorbell failed kept (FailedHome block status) n of shows = absurd of
failed-named from us doorbell failed kept (Failed tx status) n of shows = subst (λ (m : ℕ). HasTx m failed) of shows.1
failed-named from us doorbell failed kept (Stopped tx why.Off) n of shows = absurd of
failed-named from us doorbell failed kept (Stopped tx (why.Status status)) n of shows = subst (λ (m : ℕ). HasTx m failed) of shows.1

module _ {P : Type 0} (G : Ghosts P) (state : P → PortState) (faults : P → List PortFault) (same : (p : P) → G.state p ≡ state p) (g : Geometry) (ports : Ports P) (s : Standing) (scripts : List Script) (finish : Bool) (e : RunEnd P)
    (run : HasRunScripts G state faults g ports s scripts finish e) where
  abbrev K : Shared P FileEntry G
  K = run.ends.run.end.known

  abbrev values : Values (QueueSide P FileEntry G) (Root P G) FileEntry
  values = side_values state faults

  abbrev own : Geometry
  own = geometry_of values file_group K

  abbrev at-end : State
  at-end = state_with (least_marks (parts G state faults g ports s scripts finish e run)) (parts G state faults g ports s scripts finish e run)

  abbrev reports : List Charge
  reports = charged_of run.ends.left

  -- ---- the side that a refusal was reported of

  record SideAt (q : ℕ) : Type 0 where
    side : QueueSide P FileEntry G
    at : slice_get run.ends.run.sides q ≡ Some side
    stands : IsSide values file_group q K side
    port : port_at (map state (ports_of run.ends.end)) q ≡ state side.pmr.port

  side-at : (q : ℕ) → q < length K.opening.sides → SideAt q
  side-at q low =
      let opened = ap (λ x. length x.sides) run.ends.run.end.opening in
      let all = run.ends.run.end.all_sides in
      let w = found run.ends.run.sides q (omega arith) in
      let there_is : slice_get (map state (ports_of run.ends.end)) q ≡ Some (state w.0.pmr.port) =
      map_at state (ports_of run.ends.end) q w.0.pmr.port (ap (λ (ps : List P). slice_get ps q) run.ends.run.ports ∙ map_at (λ (x : QueueSide P FileEntry G). x.pmr.port) run.ends.run.sides q w.0 w.1) in
      record {
        side = w.0;
        at = w.1;
        stands = run.ends.run.end.sides_stand q w.0 w.1;
        port = get_or_from_slice_get (map state (ports_of run.ends.end)) q (state w.0.pmr.port) no_port there_is;
      }

  -- no command at or above the staged end has failed
  none-failed : (w : QueueSide P FileEntry G) (m : ℕ) → staged_end (state w.pmr.port) ≤ m → times m (state w.pmr.port).failed ≡ 0
  none-failed w m = subst (λ (p : PortState). staged_end p ≤ m → times m p.failed ≡ 0) (same w.pmr.port) (λ past. let end = w.pmr.fits.end in let all = w.pmr.fits.above m (omega arith) in omega arith)

  -- the report is of a side that there is
  side-low : (q : ℕ) (cause : Cause) → Contains reports (charge_for (Side q) cause) → q < length K.opening.sides
  side-low q cause c = (holds-of reports K.charges (charge_for (Side q) cause) run.ends.run.end.charges c (IsOfPort (length K.opening.sides)) run.ends.run.end.ok.ports).0

  -- of the root's port only its own refusals are reported: no transaction has failed or stays undone there
  pub of-root : (cause : Cause) → Contains reports (charge_for turn.Root cause) → IsOfRoot (report_of cause)
  of-root cause c = (holds-of reports K.charges (charge_for turn.Root cause) run.ends.run.end.charges c (IsOfPort (length K.opening.sides)) run.ends.run.end.ok.ports).1 refl

  shows-of : (q : ℕ) (cause : Cause) → Contains reports (charge_for (Side q) cause) → (x : SideAt q) → Shows (doorbell_of values file_group K.opening q) (own_of values file_group q K) (state x.side.pmr.port).doorbell (state x.side.pmr.port).failed x.side.kept (report_of cause)
  shows-of q cause c x =
      let R : Report → Type 0 = Shows (doorbell_of values file_group K.opening q) (own_of values file_group q K) (state x.side.pmr.port).doorbell (state x.side.pmr.port).failed x.side.kept in
      holds-of reports K.charges (charge_for (Side q) cause) run.ends.run.end.charges c (λ d. d.port ≡ Side q → R d.report) (each-charge q R K.charges x.stands.says.shows) refl

  undone-at : (q : ℕ) (cause : Cause) (n : ℕ) → Contains reports (charge_for (Side q) cause) → NamesTransaction cause n → (x : SideAt q) → IsUndoneOn (core_of values file_group K) q n (state x.side.pmr.port)
  undone-at q cause n c named x = undone-shown (core_of values file_group K) q (state x.side.pmr.port) x.stands.port x.side.kept cause n (none-failed x.side) named (shows-of q cause c x)

  -- a command of the transaction that is named has failed on the port of the side
  pub failed-shown : (q : ℕ) (cause : Cause) (n : ℕ) → Contains reports (charge_for (Side q) cause) → IsOfCommand cause n → HasTx n (port_at (map state e.ports.queues.items) q).failed
  failed-shown q cause n c of =
      let x = side-at q (side-low q cause c) in
      let given : map state e.ports.queues.items ≡ map state (ports_of run.ends.end) = ap (map state) run.ends.leaves.queues in
      let port : port_at (map state e.ports.queues.items) q ≡ state x.side.pmr.port = ap (λ (ps : List PortState). port_at ps q) given ∙ x.port in
      subst (λ (p : PortState). HasTx n p.failed) (sym port) (failed-named (doorbell_of values file_group K.opening q) (own_of values file_group q K) (state x.side.pmr.port).doorbell (state x.side.pmr.port).failed x.side.kept cause n of (shows-of q cause c x))

  -- ---- what an image reaches

  abbrev IsAbove : Geometry → ℕ → Type 0
  IsAbove h n = (queues : List PortImage) (root : PortImage) (ds : List Descriptor) (top : ℕ) → AreImages h (drive_of state e.ports) queues root → IsReadPrefix h (shown journal_reading h queues root) ds top → root.base + length ds < n

  above-own : (q n : ℕ) (x : SideAt q) → IsUndoneOn (core_of values file_group K) q n (state x.side.pmr.port) → IsAbove own n
  above-own q n x u queues root ds top images read =
      let lawful = (ends G state faults g ports s scripts finish e run).lawful in
      let given : map state e.ports.queues.items ≡ map state (ports_of run.ends.end) = ap (map state) run.ends.leaves.queues in
      let at_root : state e.ports.root ≡ state run.ends.end.root.port = ap state run.ends.leaves.root in
      let are : machine.AreImages at-end queues root = record {
        each = λ r low. subst (λ (ps : List PortState). IsImage (port_at ps r) (image_at queues r)) given (images.each r low);
        root_is = subst (λ (p : PortState). IsImage p root) at_root images.root_is;
      } in
      let cut = cut_of (parts G state faults g ports s scripts finish e run).entries at-end queues root lawful.facts are in
      let low : q < own.queues = subst (λ (r : ℕ). r < own.queues) u.own (lawful.facts.log.each u.t u.ts u.at).0.queue in
      let stored = cut.to_stored q low in
      let port = ap (λ (p : PortState). p.stored_head) x.port in
      let above = u.above in
      let past : (image_at queues q).head < end_of (doorbell_of values file_group K.opening q) (of_queue q u.ts) + (writes u.t + descriptor_blocks u.t) = omega arith in
      let turned = subst (λ (r : ℕ). (image_at queues r).head < end_of (doorbell_of values file_group K.opening r) (of_queue r u.ts) + (writes u.t + descriptor_blocks u.t)) (sym u.own) past in
      let reached = above-reached (parts G state faults g ports s scripts finish e run).entries at-end (shown journal_reading own queues root) lawful.facts cut read.chains ds u.t u.ts read.whole read.prefix u.at turned in
      let number = u.number in
      omega arith

  above : (q n : ℕ) (x : SideAt q) → IsUndoneOn (core_of values file_group K) q n (state x.side.pmr.port) → IsAbove g n
  above q n x u = subst (λ (h : Geometry). IsAbove h n) (shape-is G state faults g ports s scripts finish e run) (above-own q n x u)

  -- ---- its line

  module _ (short : All (λ script. IsShort script.groups) scripts) where
    record HasItsLine (q n : ℕ) : Type 0 where
      line : Line
      told : Contains e.entries.items line
      commit : line.commit ≡ true
      number : line.number ≡ n
      session : line.session ≡ q

    line-of : (q n : ℕ) (p : PortState) → IsUndoneOn (core_of values file_group K) q n p → HasItsLine q n
    line-of q n p u =
        let numbers = run.ends.run.end.ok.log.numbers in
        let is = (at_numbered K.opening.base u.t u.ts _ numbers u.at).0 in
        let most = at_most K.opening.base u.t u.ts _ numbers u.at in
        let many = many-txs values K.opening.base K.log in
        let long = length-reverse K.log in
        let f = found (reverse K.log) (length u.ts) (omega arith) in
        let l = has-line G state faults g ports s scripts finish e run short (length u.ts) f.0 f.1 in
        let number : l.0.number ≡ n = (let at = l.3 in let own_number = u.number in omega arith) in
        elim (line-in G state faults g ports s scripts finish e run short l.0 l.1) [
          | inl a ↦ (
              let first = entry_at values file_group K.opening.base K.log u.t u.ts u.at in
              let at : l.0.number ≡ u.t.number = number ∙ sym u.number in
              let other = subst (λ (m : ℕ). Rattle.mq_turns.specs.Meaning.HasNumberAt K.opening.base K.log m a.entry) (sym a.number ∙ at) (entry-at K.opening.base K.log a.place a.entry a.at) in
              let one : first.0 ≡ a.entry = once-at K.opening.base K.log u.t.number first.0 a.entry first.1 other in
              let session : l.0.session ≡ q = sym a.session_is ∙ (ap (λ (x : FileEntry). x.session) (sym one) ∙ (first.2 ∙ u.own)) in
              record { line = l.0; told = l.1; commit = l.2; number = number; session = session })
          | inr a ↦ (
              let x = session-of G state faults g ports s scripts finish e run l.0.session a.track a.own in
              absurd (true≢false (sym l.2 ∙ (x.tells.reads l.0 a.there).commit)))
        ]

    -- the transaction that is named by a refusal which was reported of a side is a commit of this side's
    -- queue
    pub commit-of : (q : ℕ) (cause : Cause) (n : ℕ) → Contains reports (charge_for (Side q) cause) → NamesTransaction cause n → IsQueueCommit e.entries.items n q
    commit-of q cause n c named =
        let x = side-at q (side-low q cause c) in
        let l = line-of q n (state x.side.pmr.port) (undone-at q cause n c named x) in
        (l.line, l.told, l.commit, l.number, l.session)

    -- and it is undone on each image
    pub undone : (q : ℕ) (cause : Cause) (n : ℕ) → Contains reports (charge_for (Side q) cause) → NamesTransaction cause n → (queues : List PortImage) (root : PortImage) (ds : List Descriptor) (top : ℕ) → AreImages g (drive_of state e.ports) queues root → IsReadPrefix g (shown journal_reading g queues root) ds top → IsUndone g e.entries.items (root.base + length ds) n
    undone q cause n c named queues root ds top images read =
        let x = side-at q (side-low q cause c) in
        let u = undone-at q cause n c named x in
        let l = line-of q n (state x.side.pmr.port) u in
        let low : q < own.queues = subst (λ (r : ℕ). r < own.queues) u.own (run.ends.run.end.ok.log.each u.t u.ts u.at).0.queue in
        let shape = ap (λ (h : Geometry). h.queues) (shape-is G state faults g ports s scripts finish e run) in
        let session = l.session in
        record {
          line = l.line;
          told = l.told;
          commit = l.commit;
          number = l.number;
          queue = omega arith;
          above = above q n x u queues root ds top images read;
        }

    -- so is one that is named by a refusal that was reported of some port
    pub named-undone : (cause : Cause) (n : ℕ) → NamesTransaction cause n → (IsOfRoot (report_of cause) → ⊥) → (t : Turn) → Contains reports (charge_for t cause) → (queues : List PortImage) (root : PortImage) (ds : List Descriptor) (top : ℕ) → AreImages g (drive_of state e.ports) queues root → IsReadPrefix g (shown journal_reading g queues root) ds top → IsUndone g e.entries.items (root.base + length ds) n
    named-undone cause n named never (turn.Page b) c queues root ds top images read = absurd (holds-of reports K.charges (charge_for (turn.Page b) cause) run.ends.run.end.charges c (IsOfPort (length K.opening.sides)) run.ends.run.end.ok.ports).0
    named-undone cause n named never (Side q) c queues root ds top images read = undone q cause n c named queues root ds top images read
    named-undone cause n named never turn.Root c queues root ds top images read = absurd (never (of-root cause c))

    -- what the cause of a refusal says of the history holds on each image
    pub cause-holds : (queues : List PortImage) (root : PortImage) (ds : List Descriptor) (top : ℕ) → AreImages g (drive_of state e.ports) queues root → IsReadPrefix g (shown journal_reading g queues root) ds top
        → (t : Told) (r : Refusal) (cause : Cause) → Contains e.answers.items t → t.answer ≡ Err r → r.cause ≡ Drive cause → IsPortCause g e.entries.items (root.base + length ds) cause
    cause-holds queues root ds top images read t r Off c bad is = tt
    cause-holds queues root ds top images read t r (FailedHome block status) c bad is = tt
    cause-holds queues root ds top images read t r (Failed tx status) c bad is =
        let h = is-charged G state faults g ports s scripts finish e run short t r (Failed tx status) c bad is in
        named-undone (Failed tx status) tx refl (λ no. no) h.0 h.1 queues root ds top images read
    cause-holds queues root ds top images read t r (Stopped tx w) c bad is =
        let h = is-charged G state faults g ports s scripts finish e run short t r (Stopped tx w) c bad is in
        named-undone (Stopped tx w) tx refl (λ no. no) h.0 h.1 queues root ds top images read
