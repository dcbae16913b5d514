-- What refusals for a drive's cause say of a run on an image, by the faults that its ports have gained.
use Rattle.std.proofs.Common.{◌≡◌, ◌⊎◌, ◌∙◌, ℕ, zero, suc, ◌+◌, ◌-◌, ◌<◌, ◌≤◌, ◌^◌, ◌++◌, Bool, false, true, List, [], ◌∷◌, length, map, Option, Some, None, replicate, inl, inr, refl, sym, ap, subst, arith}
use Rattle.std.specs.Prelude.{Err, Ok, Result, if◌then◌else◌, nat_eq, slice_get, slice_index_or}
use Rattle.std.specs.List.{Contains}
use Rattle.std.proofs.lemmas.Bool.{eqb-true, or_left, or_right, true≢false}
use Rattle.std.proofs.lemmas.List.{length-map}
use Rattle.std.proofs.lemmas.Option.{get_or_from_slice_get, slice_get_within}
use Rattle.mq_blocks.specs.Drive.{FuseName, PortImage, PortState, no_fuse}
use Rattle.mq_blocks.specs.Geometry.{home_lba, homes_of}
use Rattle.mq_blocks.specs.Journal.{Shown}
use Rattle.mq_blocks.specs.declared.geometry.Geometry.{Geometry}
use Rattle.mq_queue_side.specs.declared.answers.CallCause.TheVariants.{Drive}
use Rattle.mq_queue_side.specs.declared.answers.Refusal.{Refusal}
use Rattle.mq_drive.specs.Emu.{emu_faults, emu_state, executed_of}
use Rattle.mq_drive.specs.Failures.{errors_of, failed_of}
use Rattle.mq_drive.specs.Limits.{fails_by}
use Rattle.mq_drive.specs.Start.{IsPortOf, IsRole}
use Rattle.mq_drive.specs.Steps.{CommandError, PortFault, HomeError, PowerOff}
use Rattle.mq_drive.specs.declared.emu.EmuPort.{EmuPort}
use Rattle.mq_drive.specs.declared.failing.Failure.{Failure}
use Rattle.mq_drive.specs.declared.failing.Failure.TheVariants.{Home, Queued}
use Rattle.mq_drive.specs.declared.port.Ports.{Ports}
use Rattle.mq_drive.specs.declared.role.Role.{Role}
use Rattle.mq_drive.specs.declared.role.Role.TheVariants as role
use Rattle.mq_image.specs.File.{DriveImage, queue_ports, root_port}
use Rattle.mq_image_run.specs.Drives.{emu_ghosts, has_failed}
use Rattle.mq_run_laws.specs.Runs.{IsLast, IsRunOf, IsStop}
use Rattle.mq_run_laws.specs.Endings.{finishes, limit_of}
use Rattle.mq_run_laws.specs.declared.options.Ending.{Ending}
use Rattle.mq_run_laws.specs.declared.options.Ending.TheVariants as ending
use Rattle.mq_run_laws.specs.declared.options.RunOptions.{RunOptions}
use Rattle.mq_run_laws.specs.declared.ran.ImageRun.{ImageRun}
use Rattle.mq_image_run.proofs.Powered.{behind-none}
use Rattle.mq_image_ops.specs.Cuts.{row_of}
use Rattle.mq_image_ops.specs.Views.{command_of, starts_from, view_of}
use Rattle.mq_image_ops.specs.declared.ports.Failing.{Failing}
use Rattle.mq_image_ops.proofs.Views.{start-queue}
use Rattle.mq_journal.specs.Draining.{report_of}
use Rattle.mq_ledger.specs.State.{no_port, port_at}
use Rattle.mq_run_laws.specs.Answers.{IsErrorOf, IsPortCause, IsUndone}
use Rattle.mq_run_laws.specs.Cuts.{IsCut}
use Rattle.mq_run_laws.specs.Histories.{AreOfBytes}
use Rattle.mq_recover.specs.Drives.{AreBoundsKept, ArePorts, DriveFaults, DriveState, drive_of, faults_on}
use Rattle.mq_recover.specs.Recovery.{IsReadPrefix}
use Rattle.mq_journal.specs.declared.refusal.CheckpointRefusal.{CheckpointRefusal}
use Rattle.mq_journal.specs.declared.refusal.CheckpointRefusal.TheVariants as checkpoint
use Rattle.mq_report.specs.declared.line.Last.{Last}
use Rattle.mq_report.specs.declared.line.Last.TheVariants.{Cut}
use Rattle.mq_report.specs.declared.line.Told.{Told}
use Rattle.mq_desk_laws.specs.Faults.{WasGained, named_by}
use Rattle.mq_desk_laws.specs.Rule.{IsOfRoot}
use Rattle.mq_run.proofs.LawsStopped.{stop-reported}
use Rattle.mq_run.specs.Runs.{HasRunScripts}
use Rattle.mq_run.specs.declared.end.RunEnd.{RunEnd}
use Rattle.mq_script.specs.Scripts.{Script}
use Rattle.mq_queue_side.specs.Laws.{NamesTransaction}
use Rattle.mq_queue_side.specs.Side.{HasTx}
use Rattle.mq_queue_side.specs.declared.answers.Cause.{Cause}
use Rattle.mq_queue_side.specs.declared.answers.Cause.TheVariants.{Failed, FailedHome, Off, Stopped}
use Rattle.mq_queue_side.specs.declared.answers.Why.TheVariants as why
use Rattle.mq_tie.specs.Backed.{IsBehind, IsBehindAt}
use Rattle.mq_tree.specs.Volume.{Volume}
use Rattle.mq_turns.specs.Desk.{charged_of}
use Rattle.mq_turns.specs.declared.turn.Turn.{Turn}
use Rattle.mq_turns.specs.declared.turn.Turn.TheVariants.{Page, Root, Side}
use Rattle.mq_run_laws.specs.Causes.{AreBacked, HasFailed, HasFailedHome, HasFailedTx, HaveCountedAll, IsQueueCommit, IsOfCommand, IsOfPower, IsPoweredOff, IsStopOf, IsUntold}
use Rattle.mq_run_laws.proofs.BackedBlames.{charge-backed, charge_for, is-charged}
use Rattle.mq_run_laws.proofs.DrivesFailures.{commit-of, failed-shown, named-undone, of-root}
use Rattle.mq_run_laws.proofs.EmuGained.{Stands, full-off, gained-stands, failed-by, home-block, never-off, off-among, offs_of}
use Rattle.mq_run.proofs.LinesGrowing.{image_at}
use Rattle.mq_run_laws.proofs.Pairs.{cons-cases, get-append, get-in, get-push, in-either, in-get, in-left, in-right, none-in}
use Rattle.mq_run_laws.proofs.ViewsSaved as saved

-- ---- the fault that a cause names

abbrev fault-for : Geometry → Cause → PortFault
fault-for g Off = PowerOff
fault-for g (Failed tx status) = CommandError tx status
fault-for g (FailedHome block status) = HomeError (home_lba g block) status
fault-for g (Stopped tx why.Off) = PowerOff
fault-for g (Stopped tx (why.Status status)) = CommandError tx status

named : (g : Geometry) (cause : Cause) → named_by g (report_of cause) ≡ Some (fault-for g cause)
named g Off = refl
named g (Failed tx status) = refl
named g (FailedHome block status) = refl
named g (Stopped tx why.Off) = refl
named g (Stopped tx (why.Status status)) = refl

gained-for : (g : Geometry) (cause : Cause) (old new : List PortFault) → WasGained (named_by g (report_of cause)) old new → WasGained (Some (fault-for g cause)) old new
gained-for g cause old new gained = subst (λ (f : Option PortFault). WasGained f old new) (named g cause) gained

not-off : (offs : ℕ) (failure : Option Failure) → offs ≡ 0 → Contains (replicate offs PowerOff ++ errors_of failure) PowerOff → ⊥
not-off (suc n) failure none c = absurd (omega arith)
not-off zero None none c = none-in PowerOff c
not-off zero (Some (Queued w)) none c = elim (cons-cases PowerOff (CommandError w.tx 640) [] c) [ inl same ↦ absurd (cc) | inr deeper ↦ none-in PowerOff deeper ]
not-off zero (Some (Home w)) none c = elim (cons-cases PowerOff (HomeError w.lba 640) [] c) [ inl same ↦ absurd (cc) | inr deeper ↦ none-in PowerOff deeper ]

-- ---- the ports of a drive in memory

pub port-or-none : (ps : List EmuPort) (q : ℕ) → ((p : EmuPort) × (slice_get ps q ≡ Some p) × (slice_index_or (map emu_faults ps) q [] ≡ emu_faults p)) ⊎ (slice_index_or (map emu_faults ps) q [] ≡ [])
port-or-none [] q = inr refl
port-or-none (p ∷ ps) zero = inl (p, refl, refl)
port-or-none (p ∷ ps) (suc q) = port-or-none ps q

-- the port stands under the turn
abbrev pub IsUnder : Ports EmuPort → Turn → EmuPort → Type 0
IsUnder ports (Page b) p = ⊥
IsUnder ports (Side q) p = slice_get ports.queues.items q ≡ Some p
IsUnder ports Root p = p ≡ ports.root

under-row : (ports : Ports EmuPort) (t : Turn) (p : EmuPort) → IsUnder ports t p → Contains (row_of ports) p
under-row ports (Page b) p under = absurd under
under-row ports (Side q) p under = in-left ports.queues.items (ports.root ∷ []) p (get-in ports.queues.items q p under)
under-row ports Root p under = in-right ports.queues.items (ports.root ∷ []) p (0, omega arith, sym under)

row-under : (ports : Ports EmuPort) (p : EmuPort) → Contains (row_of ports) p → (t : Turn) × IsUnder ports t p
row-under ports p c = elim (in-either ports.queues.items (ports.root ∷ []) p c) [
  | inl a ↦ (let at = in-get ports.queues.items p a in (Side at.0, at.1))
  | inr b ↦ elim (cons-cases p ports.root [] b) [ inl same ↦ (Root, sym same) | inr none ↦ absurd (none-in p none) ]
]

-- a port that is behind a cause: its power was off, or the fault that the cause names stands
record BacksCause (g : Geometry) (cause : Cause) (t : Turn) (ports : Ports EmuPort) : Type 0 where
  port : EmuPort
  under : IsUnder ports t port
  stands : (2 ^ 64 - 1 ≤ length (emu_faults port)) ⊎ Stands port (fault-for g cause)

backs : (g : Geometry) (cause : Cause) (t : Turn) (old : DriveFaults) (ports : Ports EmuPort) → IsBehindAt g t (report_of cause) old (faults_on emu_faults ports) → BacksCause g cause t ports
backs g cause (Page b) old ports behind = absurd behind
backs g cause (Side q) old ports behind = elim (port-or-none ports.queues.items q) [
  | inl (p, under, is) ↦ record { port = p; under = under; stands = by p (subst (λ (fs : List PortFault). IsBehind g (report_of cause) (slice_index_or old.queues q []) fs) is behind.1) }
  | inr none ↦ absurd (behind-none g cause (slice_index_or old.queues q []) (subst (λ (fs : List PortFault). IsBehind g (report_of cause) (slice_index_or old.queues q []) fs) none behind.1))
]
  where
    by : (p : EmuPort) → IsBehind g (report_of cause) (slice_index_or old.queues q []) (emu_faults p) → (2 ^ 64 - 1 ≤ length (emu_faults p)) ⊎ Stands p (fault-for g cause)
    by p (inl many) = inl many
    by p (inr gained) = inr (gained-stands p (fault-for g cause) (slice_index_or old.queues q []) (gained-for g cause (slice_index_or old.queues q []) (emu_faults p) gained))
backs g cause Root old ports behind = record { port = ports.root; under = refl; stands = by behind }
  where
    by : IsBehind g (report_of cause) old.root (emu_faults ports.root) → (2 ^ 64 - 1 ≤ length (emu_faults ports.root)) ⊎ Stands ports.root (fault-for g cause)
    by (inl many) = inl many
    by (inr gained) = inr (gained-stands ports.root (fault-for g cause) old.root (gained-for g cause old.root (emu_faults ports.root) gained))

-- a port that has failed a write has executed the command that was to fail
has-failed : (ps : List EmuPort) (p : EmuPort) → Contains ps p → fails_by (emu_state p).fail (executed_of p) ≡ true → has_failed ps ≡ true
has-failed [] p c fails = absurd (none-in p c)
has-failed (x ∷ ps) p c fails = elim (cons-cases p x ps c) [
  | inl same ↦ or_left (fails_by (emu_state x).fail (executed_of x)) (has_failed ps) (ap (λ (y : EmuPort). fails_by (emu_state y).fail (executed_of y)) same ∙ fails)
  | inr deeper ↦ or_right (fails_by (emu_state x).fail (executed_of x)) (has_failed ps) (has-failed ps p deeper fails)
]

-- what holds of the fuse and of the failing command of each port that starts
starts-hold : (Q : FuseName → Option ℕ → Type 0) (g : Geometry) (fuse : FuseName) (fail : Option Failing) → ((k : ℕ) → Q fuse (command_of fail k)) → Q no_fuse None → (from : ℕ) (images : List PortImage) (q : ℕ)
    → Q (port_at (starts_from g fuse fail from images) q).fuse (port_at (starts_from g fuse fail from images) q).fail
starts-hold Q g fuse fail each none from [] q = none
starts-hold Q g fuse fail each none from (i ∷ images) zero = each from
starts-hold Q g fuse fail each none from (i ∷ images) (suc q) = starts-hold Q g fuse fail each none (from + 1) images q

last-cut : (k events : ℕ) (finished : Option (Result ℕ CheckpointRefusal)) (last : Last) → IsLast (ending.Cut k) events finished last → events ≡ k → last ≡ Cut k
last-cut k events finished last is many = is ∙ ap (λ (n : ℕ). Cut n) many

-- the command that is to fail is on the port that was asked for
named-port : (f : Failing) (q n : ℕ) → fails_by (command_of (Some f) q) n ≡ true → f.port ≡ q
named-port f q n fails = by (nat_eq f.port q) refl
  where
    by : (b : Bool) → nat_eq f.port q ≡ b → f.port ≡ q
    by true is = eqb-true f.port q is
    by false is = absurd (true≢false (sym fails ∙ ap (λ (b : Bool). fails_by (if b then Some f.command else None) n) is))

-- the failed command that a port shows is an error of it
failed-command : (n : ℕ) (failure : Option Failure) → HasTx n (failed_of failure) → (f : Failure) × (failure ≡ Some f) × Contains (errors_of (Some f)) (CommandError n 640)
failed-command n None has = absurd has
failed-command n (Some (Queued c)) has = elim has [ inl is ↦ (Queued c, refl, (0, omega arith, ap (λ (m : ℕ). CommandError m 640) is)) | inr none ↦ absurd none ]
failed-command n (Some (Home w)) has = absurd has

-- a refusal for a command that failed names its transaction, and is of no root
names-tx : (cause : Cause) (tx : ℕ) → IsOfCommand cause tx → NamesTransaction cause tx
names-tx Off tx of = of
names-tx (Failed n status) tx of = of
names-tx (FailedHome block status) tx of = of
names-tx (Stopped n why.Off) tx of = absurd of
names-tx (Stopped n (why.Status status)) tx of = of

never-root : (cause : Cause) (tx : ℕ) → IsOfCommand cause tx → IsOfRoot (report_of cause) → ⊥
never-root Off tx of root = of
never-root (Failed n status) tx of root = root
never-root (FailedHome block status) tx of root = of
never-root (Stopped n why.Off) tx of root = root
never-root (Stopped n (why.Status status)) tx of root = root

module _ (x : DriveImage) (scripts : List Script) (o : RunOptions) (r : ImageRun) (run : IsRunOf x scripts o r) (bytes : AreOfBytes scripts) where
  abbrev g : Geometry
  g = x.geometry

  abbrev old : Ports EmuPort
  old = run.on.stops.drives.ports

  abbrev end : RunEnd EmuPort
  end = saved.end x scripts o r run bytes

  abbrev new : Ports EmuPort
  new = end.ports

  abbrev ran : HasRunScripts emu_ghosts emu_state emu_faults g old (saved.standing x scripts o r run bytes) scripts (finishes o.ending) end
  ran = saved.ran x scripts o r run bytes

  same : run.on.recovered.image.geometry ≡ g
  same = run.on.recovery.geometry

  are-ports : ArePorts g (drive_of emu_state new)
  are-ports = subst (λ (z : Geometry). ArePorts z (drive_of emu_state new)) same run.on.stops.drives.kept.same_ports

  bounds : AreBoundsKept g (drive_of emu_state old) (drive_of emu_state new)
  bounds = subst (λ (z : Geometry). AreBoundsKept z (drive_of emu_state old) (drive_of emu_state new)) same run.on.stops.drives.kept.bounds

  -- ---- the fuses and the failing command of the ports

  state-at : (q : ℕ) (p : EmuPort) → slice_get new.queues.items q ≡ Some p → (q < g.queues) × (port_at (map emu_state new.queues.items) q ≡ emu_state p)
  state-at q p at =
      let low = slice_get_within new.queues.items q p at in
      let long = length-map new.queues.items emu_state in
      let count = are-ports.count in
      (omega arith, get_or_from_slice_get (map emu_state new.queues.items) q (emu_state p) no_port (image_at emu_state new.queues.items q p at))

  bound-at : (Q : FuseName → Option ℕ → Type 0) → ((k : ℕ) → Q run.on.fuse (command_of o.fail k)) → Q no_fuse None → (t : Turn) (p : EmuPort) → IsUnder new t p → Q (emu_state p).fuse (emu_state p).fail
  bound-at Q each none (Page b) p under = absurd under
  bound-at Q each none (Side q) p under =
      let at = state-at q p under in
      let kept = bounds.queues q at.0 in
      let began : Q (port_at (map emu_state old.queues.items) q).fuse (port_at (map emu_state old.queues.items) q).fail = subst (λ (d : DriveState). Q (port_at d.queues q).fuse (port_at d.queues q).fail) (sym run.on.stops.drives.started.states) (starts-hold Q run.on.recovered.image.geometry run.on.fuse o.fail each none 0 (queue_ports run.on.recovered.image) q) in
      subst (λ (s : PortState). Q s.fuse s.fail) at.1 (subst (λ (z : FuseName × Option ℕ). Q z.0 z.1) (λ i. (sym kept.fuse i, sym kept.fail i)) began)
  bound-at Q each none Root p under =
      let kept = bounds.root in
      let began : Q (emu_state old.root).fuse (emu_state old.root).fail = subst (λ (d : DriveState). Q d.root.fuse d.root.fail) (sym run.on.stops.drives.started.states) (each run.on.recovered.image.geometry.queues) in
      subst (λ (p : EmuPort). Q (emu_state p).fuse (emu_state p).fail) (sym under) (subst (λ (z : FuseName × Option ℕ). Q z.0 z.1) (λ i. (sym kept.fuse i, sym kept.fail i)) began)

  -- without a cut the power of no port was off
  on-always : limit_of o.ending ≡ None → (t : Turn) (p : EmuPort) → IsUnder new t p → offs_of p ≡ 0
  on-always no_cut t p under = never-off p (bound-at (λ f n. f.limit ≡ None) (λ k. run.on.power ∙ no_cut) refl t p under)

  -- ---- the port that is behind a refusal

  record BackedBy (cause : Cause) : Type 0 where
    turn : Turn
    charged : Contains (charged_of ran.ends.left) (charge_for turn cause)
    backs_it : BacksCause g cause turn new

  backed : (t : Told) (f : Refusal) (cause : Cause) → Contains r.answers.items t → t.answer ≡ Err f → f.cause ≡ Drive cause → BackedBy cause
  backed t f cause c bad is =
      let told : Contains end.answers.items t = subst (λ ts. Contains ts.items t) (sym (saved.answers-are x scripts o r run bytes)) c in
      let h = is-charged emu_ghosts emu_state emu_faults g old (saved.standing x scripts o r run bytes) scripts (finishes o.ending) end ran run.short t f cause told bad is in
      record {
        turn = h.0;
        charged = h.1;
        backs_it = backs g cause h.0 (faults_on emu_faults old) new (charge-backed emu_ghosts emu_state emu_faults g old (saved.standing x scripts o r run bytes) scripts (finishes o.ending) end ran run.short h.0 cause h.1);
      }

  backed-stop : (why : Cause) → end.finished ≡ Some (Err (checkpoint.Drive why)) → BackedBy why
  backed-stop why is =
      let h = stop-reported emu_ghosts emu_state emu_faults g old (saved.standing x scripts o r run bytes) scripts (finishes o.ending) end why ran is in
      record {
        turn = h.0;
        charged = h.1;
        backs_it = backs g why h.0 (faults_on emu_faults old) new (charge-backed emu_ghosts emu_state emu_faults g old (saved.standing x scripts o r run bytes) scripts (finishes o.ending) end ran run.short h.0 why h.1);
      }

  -- ---- the power

  -- a port refused an event for its power
  pub record HasRefusedEvent : Type 0 where
    pub port : EmuPort
    pub own : Contains (row_of new) port
    pub off : Contains (emu_faults port) PowerOff

  off-of : (cause : Cause) (t : Turn) (b : BacksCause g cause t new) → 0 < offs_of b.port → HasRefusedEvent
  off-of cause t b some = record { port = b.port; own = under-row new t b.port b.under; off = off-among b.port some }

  of-power : (cause : Cause) (t : Turn) (b : BacksCause g cause t new) → IsOfPower cause → (2 ^ 64 - 1 ≤ length (emu_faults b.port)) ⊎ Stands b.port (fault-for g cause) → 0 < offs_of b.port
  of-power cause t b is (inl many) = full-off b.port many
  of-power Off t b is (inr stands) = stands
  of-power (Stopped tx why.Off) t b is (inr stands) = stands
  of-power (Stopped tx (why.Status status)) t b is (inr stands) = absurd is
  of-power (Failed tx status) t b is (inr stands) = absurd is
  of-power (FailedHome block status) t b is (inr stands) = absurd is

  -- the power is off for a group only where a port refused an event for it
  power-off : (t : Told) (f : Refusal) (cause : Cause) → Contains r.answers.items t → t.answer ≡ Err f → f.cause ≡ Drive cause → IsOfPower cause → HasRefusedEvent
  power-off t f cause c bad is of =
      let b = backed t f cause c bad is in
      off-of cause b.turn b.backs_it (of-power cause b.turn b.backs_it of b.backs_it.stands)

  none-refused : limit_of o.ending ≡ None → HasRefusedEvent → ⊥
  none-refused no_cut h = (let at = row-under new h.port h.own in not-off h.port.device.value.power.offs h.port.device.value.failure (on-always no_cut at.0 h.port at.1) h.off)

  -- a port refuses one after all events of the cut have happened
  powered-by : HasRefusedEvent → IsPoweredOff o r
  powered-by h = by o.ending refl
    where
      by : (e : Ending) → o.ending ≡ e → IsPoweredOff o r
      by ending.Checkpoint asked = absurd (none-refused (ap limit_of asked) h)
      by ending.Sessions asked = absurd (none-refused (ap limit_of asked) h)
      by (ending.Cut k) cut = (k, cut, last-cut k run.events run.played.finished r.last (subst (λ (z : Ending). IsLast z run.events run.played.finished r.last) cut run.last) (run.on.stops.off k h.port (run.on.power ∙ ap limit_of cut) h.own h.off))

  -- where a port has counted all its faults, its power was off
  refused-by : HaveCountedAll (row_of new) → HasRefusedEvent
  refused-by (p, own, many) = record { port = p; own = own; off = off-among p (full-off p many) }

  none-full : limit_of o.ending ≡ None → HaveCountedAll (row_of new) → ⊥
  none-full no_cut h = none-refused no_cut (refused-by h)

  full : (t : Turn) (p : EmuPort) → IsUnder new t p → 2 ^ 64 - 1 ≤ length (emu_faults p) → HaveCountedAll (row_of new)
  full t p under many = (p, under-row new t p under, many)

  pub untold : (t : Turn) (p : EmuPort) → IsUnder new t p → 2 ^ 64 - 1 ≤ length (emu_faults p) → IsUntold o r (row_of new)
  untold t p under many = (let all = full t p under many in record { power = powered-by (refused-by all); counted = all })

  -- ---- the command that had to fail

  failed-is : r.failed ≡ has_failed (row_of new)
  failed-is = run.on.stops.drives.any_failed

  -- the number of a port
  abbrev number-at : Turn → ℕ
  number-at (Page b) = 0
  number-at (Side q) = q
  number-at Root = g.queues

  place-at : (t : Turn) (p : EmuPort) → IsUnder new t p → slice_get (row_of new) (number-at t) ≡ Some p
  place-at (Page b) p under = absurd under
  place-at (Side q) p under = get-append new.queues.items (new.root ∷ []) q p under
  place-at Root p under =
      let long = length-map new.queues.items emu_state in
      let count = are-ports.count in
      get-push new.queues.items g.queues new.root (omega arith) ∙ ap (λ (z : EmuPort). Some z) (sym under)

  -- the command of a port that is to fail is the one that was asked of the port with this number
  fail-at : (t : Turn) (p : EmuPort) → IsUnder new t p → (emu_state p).fail ≡ command_of o.fail (number-at t)
  fail-at (Page b) p under = absurd under
  fail-at (Side q) p under =
      let at = state-at q p under in
      let low : q < run.on.recovered.image.geometry.queues = subst (λ (z : Geometry). q < z.queues) (sym same) at.0 in
      ap (λ (s : PortState). s.fail) (sym at.1)
      ∙ ((bounds.queues q at.0).fail
      ∙ (ap (λ (d : DriveState). (port_at d.queues q).fail) run.on.stops.drives.started.states
      ∙ ap (λ (s : PortState). s.fail) (start-queue run.on.fuse o.fail run.on.recovered.image q run.on.recovery.drive low)))
  fail-at Root p under =
      ap (λ (z : EmuPort). (emu_state z).fail) under
      ∙ (bounds.root.fail
      ∙ (ap (λ (d : DriveState). d.root.fail) run.on.stops.drives.started.states
      ∙ ap (λ (z : Geometry). command_of o.fail z.queues) same))

  -- where a write of the port has failed, a command had to fail, and its port has this number
  record HasFailedOn (t : Turn) : Type 0 where
    command : Failing
    asked : o.fail ≡ Some command
    executed : r.failed ≡ true
    number : command.port ≡ number-at t

  has-command : (t : Turn) (p : EmuPort) → IsUnder new t p → fails_by (emu_state p).fail (executed_of p) ≡ true → HasFailedOn t
  has-command t p under fails = by o.fail refl
    where
      named_at : (fail : Option Failing) → o.fail ≡ fail → fails_by (command_of fail (number-at t)) (executed_of p) ≡ true
      named_at fail is = sym (ap (λ (n : Option ℕ). fails_by n (executed_of p)) (fail-at t p under ∙ ap (λ (z : Option Failing). command_of z (number-at t)) is)) ∙ fails

      by : (fail : Option Failing) → o.fail ≡ fail → HasFailedOn t
      by (Some f) is = record {
        command = f;
        asked = is;
        executed = failed-is ∙ has-failed (row_of new) p (under-row new t p under) fails;
        number = named-port f (number-at t) (executed_of p) (named_at (Some f) is);
      }
      by None is = absurd (true≢false (sym (named_at None is)))

  -- the error of the port is that command's
  error-on : (t : Turn) (p : EmuPort) (f : Failure) (error : PortFault) → IsUnder new t p → p.device.value.failure ≡ Some f → Contains (errors_of (Some f)) error → (h : HasFailed o r (row_of new) error) × (h.command.port ≡ number-at t)
  error-on t p f error under is c =
      let h = has-command t p under (failed-by p f is) in
      let own : Contains (errors_of p.device.value.failure) error = subst (λ (z : Option Failure). Contains (errors_of z) error) (sym is) c in (
        record {
          command = h.command;
          asked = h.asked;
          executed = h.executed;
          port = p;
          named = ap (slice_get (row_of new)) h.number ∙ place-at t p under;
          has = in-right (replicate p.device.value.power.offs PowerOff) (errors_of p.device.value.failure) error own;
        },
        h.number,
      )

  -- so it is of the transaction that a refusal names, which is a commit of the port's queue
  tx-failed : (cause : Cause) (tx : ℕ) (t : Turn) (p : EmuPort) → IsUnder new t p → Contains (charged_of ran.ends.left) (charge_for t cause) → IsOfCommand cause tx → HasFailedTx o r (row_of new) tx
  tx-failed cause tx (Page b) p under c of = absurd under
  tx-failed cause tx Root p under c of = absurd (never-root cause tx of (of-root emu_ghosts emu_state emu_faults (λ p. refl) g old (saved.standing x scripts o r run bytes) scripts (finishes o.ending) end ran cause c))
  tx-failed cause tx (Side q) p under c of =
      let shown = failed-shown emu_ghosts emu_state emu_faults (λ p. refl) g old (saved.standing x scripts o r run bytes) scripts (finishes o.ending) end ran q cause tx c of in
      let own : HasTx tx (emu_state p).failed = subst (λ (s : PortState). HasTx tx s.failed) (state-at q p under).1 shown in
      let f = failed-command tx p.device.value.failure own in
      let h = error-on (Side q) p f.0 (CommandError tx 640) under f.1 f.2 in
      let is = commit-of emu_ghosts emu_state emu_faults (λ p. refl) g old (saved.standing x scripts o r run bytes) scripts (finishes o.ending) end ran run.short q cause tx c (names-tx cause tx of) in
      let told : IsQueueCommit r.entries.items tx q = subst (λ es. IsQueueCommit es.items tx q) (saved.entries-are x scripts o r run bytes) is in
      record { failed = h.0; commit = subst (IsQueueCommit r.entries.items tx) (sym h.1) told }

  -- and it is the home write of the block that one names
  home-failed : (block status : ℕ) (t : Turn) (p : EmuPort) → IsUnder new t p → Stands p (HomeError (home_lba g block) status) → HasFailedHome g o r (row_of new) block
  home-failed block status t p under stands = (error-on t p (Home stands.0) (HomeError (home_lba g block) 640) under stands.1 (0, omega arith, ap (λ (l : ℕ). HomeError l 640) stands.2)).0

  home-behind : (block status : ℕ) → BackedBy (FailedHome block status) → HasFailedHome g o r (row_of new) block ⊎ IsUntold o r (row_of new)
  home-behind block status b = elim b.backs_it.stands [
    | inl many ↦ inr (untold b.turn b.backs_it.port b.backs_it.under many)
    | inr stands ↦ inl (home-failed block status b.turn b.backs_it.port b.backs_it.under stands)
  ]

  -- ---- what a cause says of the error

  role-of : (t : Turn) (p : EmuPort) → IsUnder new t p → (z : Role) × IsRole g z × IsPortOf g z (emu_state p)
  role-of (Page b) p under = absurd under
  role-of (Side q) p under = (let at = state-at q p under in (role.Queue q, at.0, subst (λ (s : PortState). IsPortOf g (role.Queue q) s) at.1 (are-ports.each q at.0)))
  role-of Root p under = (role.Root, tt, subst (λ (p : EmuPort). IsPortOf g role.Root (emu_state p)) (sym under) are-ports.root)

  home-low : (block status : ℕ) (t : Turn) (p : EmuPort) → IsUnder new t p → Stands p (HomeError (home_lba g block) status) → block < homes_of g
  home-low block status t p under stands = (let port = role-of t p under in home-block g port.0 p stands.0 block port.1 port.2 stands.1 stands.2)

  error-holds : (cause : Cause) → BackedBy cause → IsErrorOf g cause ⊎ IsUntold o r (row_of new)
  error-holds Off b = inl tt
  error-holds (Stopped tx why.Off) b = inl tt
  error-holds (Failed tx status) b = elim b.backs_it.stands [ inl many ↦ inr (untold b.turn b.backs_it.port b.backs_it.under many) | inr stands ↦ inl stands.3 ]
  error-holds (FailedHome block status) b = elim b.backs_it.stands [
    | inl many ↦ inr (untold b.turn b.backs_it.port b.backs_it.under many)
    | inr stands ↦ inl (home-low block status b.turn b.backs_it.port b.backs_it.under stands, stands.3)
  ]
  error-holds (Stopped tx (why.Status status)) b = elim b.backs_it.stands [ inl many ↦ inr (untold b.turn b.backs_it.port b.backs_it.under many) | inr stands ↦ inl stands.3 ]

  pub are-backed : AreBacked g o r (row_of new)
  are-backed = record {
    power = λ t cause c by of. powered-by (power-off t by.0 cause c by.1 by.2 of);
    command = λ t cause tx c by of. (let b = backed t by.0 cause c by.1 by.2 in tx-failed cause tx b.turn b.backs_it.port b.backs_it.under b.charged of);
    home = λ t block status c by. home-behind block status (backed t by.0 (FailedHome block status) c by.1 by.2);
    errors = λ t cause c by. error-holds cause (backed t by.0 cause c by.1 by.2);
  }

  -- ---- what the cause says of the history

  module _ (v : Volume) (reached : ℕ) (cut : IsCut g scripts v r.base r.entries.items r.answers.items (view_of r.image) reached) where
    read : IsReadPrefix g (saved.seen x scripts o r run bytes) cut.ds cut.top
    read = subst (λ (i : Shown). IsReadPrefix g i cut.ds cut.top) (sym (saved.seen-is x scripts o r run bytes)) cut.read

    -- the transaction that a refusal names is undone
    undone-by : (cause : Cause) (n : ℕ) → NamesTransaction cause n → (IsOfRoot (report_of cause) → ⊥) → BackedBy cause → IsUndone g r.entries.items reached n
    undone-by cause n named never b =
        let u = named-undone emu_ghosts emu_state emu_faults (λ p. refl) g old (saved.standing x scripts o r run bytes) scripts (finishes o.ending) end ran run.short cause n named never b.turn b.charged (queue_ports r.image) (root_port r.image) cut.ds cut.top (saved.images x scripts o r run bytes) read in
        subst (λ (z : ℕ). IsUndone g r.entries.items z n) (sym cut.reaches) (subst (λ es. IsUndone g es.items ((root_port r.image).base + length cut.ds) n) (saved.entries-are x scripts o r run bytes) u)

    port-cause : (cause : Cause) → BackedBy cause → IsPortCause g r.entries.items reached cause
    port-cause Off b = tt
    port-cause (FailedHome block status) b = tt
    port-cause (Failed tx status) b = undone-by (Failed tx status) tx refl (λ no. no) b
    port-cause (Stopped tx w) b = undone-by (Stopped tx w) tx refl (λ no. no) b

    pub have-port-causes : (t : Told) (f : Refusal) (cause : Cause) → Contains r.answers.items t → t.answer ≡ Err f → f.cause ≡ Drive cause → IsPortCause g r.entries.items reached cause
    have-port-causes t f cause c bad is = port-cause cause (backed t f cause c bad is)

    -- ---- what stopped the run at its end

    abbrev Holds : Last → Type 0
    Holds last = IsStopOf g o r (row_of new) reached last

    stop-holds : limit_of o.ending ≡ None → (cause : Cause) → BackedBy cause → (last : Last) → IsStop cause last → Holds last
    stop-holds no_cut Off b last stop = absurd stop
    stop-holds no_cut (Failed tx status) b last stop =
        subst Holds (sym stop) (undone-by (Failed tx status) tx refl (λ no. no) b, tx-failed (Failed tx status) tx b.turn b.backs_it.port b.backs_it.under b.charged refl)
    stop-holds no_cut (FailedHome block status) b last stop = elim b.backs_it.stands [
      | inl many ↦ absurd (none-full no_cut (full b.turn b.backs_it.port b.backs_it.under many))
      | inr stands ↦ subst Holds (sym stop) (home-low block status b.turn b.backs_it.port b.backs_it.under stands, home-failed block status b.turn b.backs_it.port b.backs_it.under stands)
    ]
    stop-holds no_cut (Stopped tx why.Off) b last stop =
        absurd (none-refused no_cut (off-of (Stopped tx why.Off) b.turn b.backs_it (of-power (Stopped tx why.Off) b.turn b.backs_it tt b.backs_it.stands)))
    stop-holds no_cut (Stopped tx (why.Status status)) b last stop =
        subst Holds (sym stop) (undone-by (Stopped tx (why.Status status)) tx refl (λ no. no) b, tx-failed (Stopped tx (why.Status status)) tx b.turn b.backs_it.port b.backs_it.under b.charged refl)

    stopped-by : (e : Ending) (events : ℕ) (finished : Option (Result ℕ CheckpointRefusal)) (last : Last) → o.ending ≡ e → end.finished ≡ finished → IsLast e events finished last → Holds last
    stopped-by (ending.Cut k) events finished last asked is told = subst Holds (sym told) tt
    stopped-by ending.Sessions events finished last asked is told = subst Holds (sym told) tt
    stopped-by ending.Checkpoint events (Some (Ok n)) last asked is told = subst Holds (sym told) tt
    stopped-by ending.Checkpoint events (Some (Err (checkpoint.Drive why))) last asked is told = stop-holds (ap limit_of asked) why (backed-stop why is) last told
    stopped-by ending.Checkpoint events (Some (Err checkpoint.OutOfMemory)) last asked is told = absurd told
    stopped-by ending.Checkpoint events None last asked is told = absurd told

    pub is-stop : IsStopOf g o r (row_of new) reached r.last
    is-stop = stopped-by o.ending run.events end.finished r.last refl refl run.last
