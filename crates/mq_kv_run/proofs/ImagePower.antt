-- A run in which a group was cut off is one whose power went off; and how each run starts and ends.
use Rattle.std.proofs.Common.{◌≡◌, ◌⊎◌, ◌∙◌, ℕ, zero, suc, ◌≤◌, Bool, true, false, List, [], ◌∷◌, ◌++◌, map, replicate, Option, None, Some, inl, inr, refl, sym, ap, subst, arith}
use Rattle.std.specs.Prelude.{Err, Ok, Result}
use Rattle.std.specs.List.{Contains}
use Rattle.mq_blocks.specs.Drive.{PortState}
use Rattle.mq_blocks.specs.declared.geometry.Geometry.{Geometry}
use Rattle.mq_blocks.proofs.Options.{none-of}
use Rattle.mq_journal.specs.Raised.{HasRefused}
use Rattle.mq_journal.specs.declared.refusal.CheckpointRefusal.{CheckpointRefusal}
use Rattle.mq_journal.specs.declared.refusal.CheckpointRefusal.TheVariants as checkpoint
use Rattle.mq_drive.specs.Emu.{emu_faults, emu_state, executed_of}
use Rattle.mq_drive.specs.Failures.{errors_of}
use Rattle.mq_drive.specs.Limits.{fails_by}
use Rattle.mq_drive.specs.Steps.{PortFault, PowerOff}
use Rattle.mq_drive.specs.declared.emu.EmuPort.{EmuPort}
use Rattle.mq_drive.specs.declared.port.Port.{Ghosts}
use Rattle.mq_drive.specs.declared.port.Ports.{Ports}
use Rattle.mq_drive.proofs.StepsFaults.{contains_first}
use Rattle.mq_image.specs.File.{DriveImage}
use Rattle.mq_image_ops.specs.Cuts.{row_of}
use Rattle.mq_journal.specs.Draining.{report_of}
use Rattle.mq_journal.specs.Numbers.{Seat, Start}
use Rattle.mq_kv_buckets.specs.declared.operation.KvOp.{KvOp}
use Rattle.mq_kv_entries.specs.Calls.{store_calls}
use Rattle.mq_kv_entries.specs.Group.{store_group}
use Rattle.mq_kv_entries.specs.declared.entry.KvEntry.{KvEntry}
use Rattle.mq_sessions.proofs.Members.{cons-cases, cons-here, cons-there, none-contained}
use Rattle.mq_image_run.specs.Drives.{emu_ghosts}
use Rattle.mq_image_run.specs.Limits.{AreWithin}
use Rattle.mq_image_run.proofs.Powered.{none-behind, unfailed}
use Rattle.mq_kv_run.specs.Drives.{HaveRefused, with_told}
use Rattle.mq_kv_run.specs.Endings.{finishes}
use Rattle.mq_kv_run.specs.Limits.{HoldsStore}
use Rattle.mq_kv_run.specs.Played.{ArePlayed, EndsBy, HasRunStore, IsPlayed, cut_off, done, is_off, large, next, refused, whole}
use Rattle.mq_kv_run.specs.Promise.{HasGoneOff, IsEndOf}
use Rattle.mq_kv_run.specs.Runs.{IsLast, IsRunOf}
use Rattle.mq_kv_run.specs.declared.options.KvOptions.{KvOptions}
use Rattle.mq_kv_run.specs.declared.ran.KvRun.{KvRun}
use Rattle.mq_kv_run.specs.declared.storing.StoreEnd.{StoreEnd}
use Rattle.mq_kv_text.specs.declared.report.GroupReport.{GroupReport}
use Rattle.mq_kv_text.specs.declared.report.GroupReport.TheVariants.{Off}
use Rattle.mq_kv_text.specs.declared.report.LastLine.TheVariants.{Clean, Cut}
use Rattle.mq_recover.specs.Drives.{DriveFaults, faults_of, faults_on}
use Rattle.mq_recover.specs.declared.standing.Standing.{Standing}
use Rattle.mq_queue_side.specs.declared.answers.Cause.{Cause}
use Rattle.mq_queue_side.specs.declared.answers.Cause.TheVariants as cause
use Rattle.mq_sessions.specs.Calls.{Call, call_by}
use Rattle.mq_sessions.specs.Refusing as refusing
use Rattle.mq_sessions.specs.Refusing.{IsRefused, IsTurnedDown, cause_of}
use Rattle.mq_sessions.specs.Synchronizing as durable
use Rattle.mq_sessions.specs.Synchronizing.{IsNotDurable}
use Rattle.mq_sessions.specs.declared.answers.RefusalCause.{RefusalCause}
use Rattle.mq_sessions.specs.declared.answers.RefusalCause.TheVariants.{Drive}
use Rattle.mq_tie.specs.Backed.{IsBehindAt, opened_faults}
use Rattle.mq_tie.specs.Runs.{ports_of}
use Rattle.mq_tie.specs.declared.ended.Ended.{Ended}
use Rattle.mq_tie.proofs.Backed as closed
use Rattle.mq_tie.proofs.Runs.{same-ports}
use Rattle.mq_turns.specs.Desk.{charged_of}
use Rattle.mq_turns.specs.declared.rule.Charge.{Charge}
use Rattle.mq_turns.specs.declared.turn.Turn.{Turn}
use Rattle.mq_turns.specs.declared.turn.Turn.TheVariants.{Side}

-- ---- a refusal for a drive's cause is reported of a port

module _ {P : Type 0} {G : Ghosts P} (state : P → PortState) (faults : P → List PortFault) (g : Geometry) where
  -- the newest report is of this cause
  record Names (v : Seat P KvEntry G) : Type 0 where
    why : Cause
    port : Turn
    before : List Charge
    charged : v.reading.charged ≡ record { port = port; report = report_of why } ∷ before

  stopped-names : (why : CheckpointRefusal) (old new : Seat P KvEntry G) (c : Cause) → cause_of why ≡ Drive c → HasRefused state faults store_group why old new → Names new
  stopped-names checkpoint.OutOfMemory old new c is has = absurd (cc)
  stopped-names (checkpoint.Drive why) old new c is (inl has) = record { why = why; port = has.port; before = old.reading.charged; charged = has.moves.charged }
  stopped-names (checkpoint.Drive why) old new c is (inr later) = record { why = why; port = later.1.port; before = old.reading.charged; charged = later.1.moves.charged }

  turned-names : (c : Call KvOp) (old new : Seat P KvEntry G) (why : RefusalCause) (drawn : Option ℕ) (on : Cause) → why ≡ Drive on → IsTurnedDown state faults store_group store_calls g c old new why drawn → Names new
  turned-names c old new _ _ on is (refusing.memory keeps) = absurd (cc)
  turned-names c old new _ _ on is (refusing.too_large more) = absurd (cc)
  turned-names c old new _ _ on is (refusing.before {why = why} refuses) = record { why = why; port = Side c.session; before = old.reading.charged; charged = refuses.charged }
  turned-names c old new _ _ on is (refusing.cut has) = record { why = cause.Off; port = Side c.session; before = old.reading.charged; charged = has.commits.charged }

  refused-names : (c : Call KvOp) (old new : Seat P KvEntry G) (why : RefusalCause) (drawn : Option ℕ) (on : Cause) → why ≡ Drive on → IsRefused state faults store_group store_calls g c old new why drawn → Names new
  refused-names c old new why drawn on is (refusing.turned_down {from = from} begins down) = turned-names c from new why drawn on is down
  refused-names c old new _ _ on is (refusing.no_room why {between = between} full has) = stopped-names why between new on is has

  denied-names : (c : Call KvOp) (old new : Seat P KvEntry G) (why : RefusalCause) (drawn : Option ℕ) (on : Cause) → why ≡ Drive on → IsNotDurable state faults store_group store_calls g c old new why drawn → Names new
  denied-names c old new why drawn on is (durable.before has) = refused-names c old new why drawn on is has
  denied-names c old new _ drawn on is (durable.after {cause = why} w) = record { why = why; port = Side w.refused.queue; before = w.between.reading.charged; charged = w.refused.charged }

  played-names : (queue : ℕ) (ops : List KvOp) (old new : Seat P KvEntry G) (t : GroupReport) → t ≡ Off → IsPlayed state faults g queue ops old new t → Names new
  played-names queue ops old new _ is (done calls at drew replies c has) = absurd (cc)
  played-names queue ops old new _ is (large calls count limit drawn c has) = absurd (cc)
  played-names queue ops old new _ is (refused calls why drawn c has) = denied-names (call_by queue calls true ops) old new (Drive why) drawn why refl has

  -- a group that was cut off is the last one
  groups-name : (queue : ℕ) (groups : List (List KvOp)) (reports : List GroupReport) (old new : Seat P KvEntry G) → ArePlayed state faults g queue groups reports old new → Contains reports Off → Names new
  groups-name queue _ _ old _ whole c = none-contained Off c
  groups-name queue _ _ old new (cut_off {ops = ops} one) c = played-names queue ops old new Off refl one
  groups-name queue _ _ old new (next {groups = groups} {r = r} {reports = reports} {mid = mid} one on more) c = elim (cons-cases r reports Off c) [
    | inl same ↦ absurd (let off : is_off r ≡ true = ap is_off same in let no : false ≡ true = sym on ∙ off in cc)
    | inr rest ↦ groups-name queue groups reports mid new more rest
  ]

  -- what was reported stays so at the end
  ends-names : (asked : Bool) (answer : Option (Result ℕ CheckpointRefusal)) (old new : Seat P KvEntry G) → EndsBy state faults asked answer old new → Names old → (c : Cause) × (port : Turn) × Contains new.reading.charged (record { port = port; report = report_of c })
  ends-names false None old new same n =
      (n.why, n.port, subst (λ (cs : List Charge). Contains cs (record { port = n.port; report = report_of n.why })) (sym (ap (λ (v : Seat P KvEntry G). v.reading.charged) same ∙ n.charged)) (cons-here _ n.before _ refl))
  ends-names false (Some answer) old new is n = absurd is
  ends-names true None old new is n = absurd is
  ends-names true (Some (Ok base)) old new raises n =
      (n.why, n.port, subst (λ (cs : List Charge). Contains cs (record { port = n.port; report = report_of n.why })) (sym (raises.charged ∙ n.charged)) (cons-here _ n.before _ refl))
  ends-names true (Some (Err checkpoint.OutOfMemory)) old new (inl m) n =
      (n.why, n.port, subst (λ (cs : List Charge). Contains cs (record { port = n.port; report = report_of n.why })) (sym (m.charged ∙ n.charged)) (cons-here _ n.before _ refl))
  ends-names true (Some (Err checkpoint.OutOfMemory)) old new (inr later) n =
      (n.why, n.port, subst (λ (cs : List Charge). Contains cs (record { port = n.port; report = report_of n.why })) (sym (later.1.charged ∙ n.charged)) (cons-here _ n.before _ refl))
  ends-names true (Some (Err (checkpoint.Drive why))) old new has n =
      let m = stopped-names (checkpoint.Drive why) old new why refl has in
      (m.why, m.port, subst (λ (cs : List Charge). Contains cs (record { port = m.port; report = report_of m.why })) (sym m.charged) (cons-here _ m.before _ refl))

module _ {P : Type 0} (G : Ghosts P) (state : P → PortState) (faults : P → List PortFault) (g : Geometry) (ports : Ports P) (s : Standing) (groups : List (List KvOp)) (finish : Bool) (e : StoreEnd P)
    (run : HasRunStore G state faults g ports s groups finish e) where
  abbrev o : Start P KvEntry G
  o = run.opening

  abbrev end : Ended P KvEntry G
  end = run.run.left

  taken : opened_faults G state faults store_group o ≡ faults_on faults ports
  taken =
      let queues : map (λ q. faults q.pmr.port) o.sides ≡ map faults ports.queues.items = same-ports faults o.sides ∙ ap (map faults) run.opened.queues in
      λ i. record { queues = queues i; root = faults (run.opened.root i) }

  given : faults_of faults (ports_of end) end.root.port ≡ faults_on faults e.ports
  given = λ i. faults_of faults (sym run.run.queues i) (sym run.run.root i)

  -- the port of a refusal has gained a fault
  pub off-behind : Contains e.reports.items Off → (c : Cause) × (port : Turn) × IsBehindAt g port (report_of c) (faults_on faults ports) (faults_on faults e.ports)
  off-behind c =
      let n = groups-name state faults g 0 groups e.reports.items _ run.run.between run.run.played c in
      let told = ends-names state faults g finish e.finished run.run.between run.run.last run.run.ended n in
      let charge : Charge = record { port = told.1; report = report_of told.0 } in
      let reported : Contains (charged_of (run.run.last ∷ [])) charge = told.2 in (
        told.0,
        told.1,
        subst (λ (z : Geometry × DriveFaults × DriveFaults). IsBehindAt z.0 told.1 (report_of told.0) z.1 z.2) (λ i. (run.opened.shape i, taken i, given i))
            (closed.reports-backed state faults store_group o (run.run.last ∷ []) end charge run.run.closed reported),
      )

-- ---- a port that has a fault was refused for its power, where no command is to fail

-- its power went off, or it has no fault
off-or-none : (p : EmuPort) → fails_by (emu_state p).fail (executed_of p) ≡ false → Contains (emu_faults p) PowerOff ⊎ (emu_faults p ≡ [])
off-or-none p fails = by p.device.value.power.offs refl
  where
    by : (n : ℕ) → p.device.value.power.offs ≡ n → Contains (emu_faults p) PowerOff ⊎ (emu_faults p ≡ [])
    by zero offs =
        let failure : p.device.value.failure ≡ None = none-of p.device.value.failure (p.device.value.sound.counts.failure_counted ∙ (p.device.value.failing.exact ∙ fails)) in
        inr (ap (λ (n : ℕ). replicate n PowerOff ++ errors_of p.device.value.failure) offs ∙ ap errors_of failure)
    by (suc n) offs = inl (contains_first p.device.value.power.offs (errors_of p.device.value.failure) (omega arith))

find-off : (row : List EmuPort) → ((p : EmuPort) → Contains row p → fails_by (emu_state p).fail (executed_of p) ≡ false) → HaveRefused row ⊎ ((p : EmuPort) → Contains row p → emu_faults p ≡ [])
find-off [] fails = inr (λ p c. none-contained p c)
find-off (p ∷ row) fails = elim (off-or-none p (fails p (cons-here p row p refl))) [
  | inl off ↦ inl (p, cons-here p row p refl, off)
  | inr none ↦ elim (find-off row (λ q c. fails q (cons-there p row q c))) [
    | inl later ↦ inl (later.0, cons-there p row later.0 later.1, later.2)
    | inr rest ↦ inr (λ q c. elim (cons-cases p row q c) [
      | inl same ↦ subst (λ (z : EmuPort). emu_faults z ≡ []) same none
      | inr own ↦ rest q own
    ])
  ]
]

module _ (x : DriveImage) (groups : List (List KvOp)) (o : KvOptions) (r : KvRun) (run : IsRunOf x groups o r) where
  abbrev h : Geometry
  h = x.geometry

  abbrev old : Ports EmuPort
  old = run.on.stops.drives.ports

  abbrev new : Ports EmuPort
  new = run.on.stops.drives.end

  have-refused : Contains r.report.groups Off → HaveRefused (row_of new)
  have-refused c =
      let drives = run.on.stops.drives in
      let own : Contains run.played.reports.items Off = subst (λ (ts : List GroupReport). Contains ts Off) run.reports c in
      let behind = off-behind emu_ghosts emu_state emu_faults h old drives.plays.standing groups (finishes o.cut) (with_told new run.played) drives.plays.ran own in
      elim (find-off (row_of new) (λ p own. unfailed (row_of new) (sym drives.any_failed ∙ drives.named) own.0 p own.1 own.2)) [
        | inl off ↦ off
        | inr none ↦ absurd (none-behind h (faults_on emu_faults old) new none behind.0 behind.1 behind.2)
      ]

  gone-by : (cut : Option ℕ) → o.cut ≡ cut → HaveRefused (row_of new) → HasGoneOff x groups o r run
  gone-by None e off = absurd (run.on.stops.powered off.0 (run.on.power ∙ e) off.1 off.2)
  gone-by (Some k) e off =
      let all = run.on.stops.off k off.0 (run.on.power ∙ e) off.1 off.2 in
      let told : r.report.last ≡ Cut run.events = subst (λ (c : Option ℕ). IsLast c run.events run.played.finished r.report.last) e run.last in
      record { k = k; asked = e; happened = told ∙ ap Cut all; refused = off }

  -- a group was cut off
  pub gone-off : Contains r.report.groups Off → HasGoneOff x groups o r run
  gone-off c = gone-by o.cut refl (have-refused c)

  last-none : (finished : Option (Result ℕ CheckpointRefusal)) → IsLast None run.events finished r.report.last → (n : ℕ) × (r.report.last ≡ Clean n)
  last-none (Some (Ok n)) is = (n, is)
  last-none (Some (Err why)) is = absurd is
  last-none None is = absurd is

  end-by : (cut : Option ℕ) → o.cut ≡ cut → IsEndOf x groups o r run cut
  end-by None e = last-none run.played.finished (subst (λ (c : Option ℕ). IsLast c run.events run.played.finished r.report.last) e run.last)
  end-by (Some k) e =
      let all = run.on.stops.happened k (run.on.power ∙ e) in
      let told : r.report.last ≡ Cut run.events = subst (λ (c : Option ℕ). IsLast c run.events run.played.finished r.report.last) e run.last in
      (told ∙ ap Cut all.0, subst (λ (n : ℕ). n ≤ k) all.0 all.1)

  -- how the run ends
  pub ends : IsEndOf x groups o r run o.cut
  ends = end-by o.cut refl

  -- a store stands on the image
  pub holds : HoldsStore x run.on.recovery.ds run.on.recovery.top
  holds = record {
    read = run.on.recovery.plan.read;
    within = subst (λ (n : ℕ). AreWithin x n) run.on.recovery.base run.on.within;
    formed = run.formed;
  }
