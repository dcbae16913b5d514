-- What a cut leaves after the lines were run, or after the power went off in one of them.
use Rattle.std.proofs.Common.{◌≡◌, ◌⊎◌, ◌<◌, ◌≤◌, ◌^◌, inl, inr, ℕ, zero, suc, ◌+◌, ◌-◌, Bool, cond, eqb, List, [], length, sym, ◌∙◌, ap, subst, arith}
use Rattle.std.proofs.lemmas.Bool.{cases_eq, eq-eqb, ne_eqb}
use Rattle.mq_blocks.specs.Drive.{FuseName, PortImage}
use Rattle.mq_blocks.specs.declared.geometry.Geometry.{Geometry}
use Rattle.mq_drive.specs.Emu.{emu_faults, emu_state}
use Rattle.mq_drive.specs.declared.fuse.FuseSeat.{FuseSeat}
use Rattle.mq_drive.specs.declared.emu.EmuPort.{EmuPort}
use Rattle.mq_drive.specs.declared.port.Ports.{Ports}
use Rattle.mq_image.proofs.FaultsGeometries.{same_geometry}
use Rattle.mq_image_ops.specs.Cuts.{AreCutPorts, row_of}
use Rattle.mq_ledger.specs.State.{State}
use Rattle.mq_ledger.specs.Written.{journal_entries}
use Rattle.mq_ledger.specs.declared.tx.Tx.{Tx}
use Rattle.mq_loose.specs.Guards.{settled}
use Rattle.mq_loose.specs.Safe.{Facts}
use Rattle.mq_loose_queues.specs.Journal.{IsJournal, state_over}
use Rattle.mq_loose_queues.specs.Laws.{QueuesAreSafe}
use Rattle.mq_loose_queues.specs.Queues.{QueuesState, at_queue, drive_in, faults_in, ports_of}
use Rattle.mq_loose_text.specs.Meaning.{drawn_by, drawn_in, events_upto, line_at, numbers_from}
use Rattle.mq_loose_text.specs.Text.{IsGoodText}
use Rattle.mq_loose_text.specs.declared.line.LooseLine.{LooseLine}
use Rattle.mq_recover.specs.Drives.{drive_of, faults_on}
use Rattle.mq_loose_run.specs.Cuts.{IsCutRun, ShowsRun}
use Rattle.mq_loose_run.specs.Lines.{HasHappened, HasRun, HasStopped, events_on, queue_of}
use Rattle.mq_loose_run.specs.Runs.{IsRunGeometry}
use Rattle.mq_loose_run.proofs.Counts.{events_all, events_few, events_sum, queue_is}
use Rattle.mq_loose_run.proofs.Shows.{ran_shows, stopped_shows}
use Rattle.mq_loose_run.proofs.Plugged.{are_images, happened_is, is_drive, off_at, seats_count, seats_own}

-- a geometry of runs is given by its numbers
one_geometry : (g h : Geometry) → IsRunGeometry g → IsRunGeometry h → g ≡ h
one_geometry g h a b = same_geometry g h (a.queues ∙ sym b.queues) (a.area ∙ sym b.area) (a.meta ∙ sym b.meta) (a.zone ∙ sym b.zone)

-- of one of four, and of none of the others
one_of_four : (r e : ℕ) → r < 4 → cond (eqb r 0) e 0 + (cond (eqb r 1) e 0 + (cond (eqb r 2) e 0 + cond (eqb r 3) e 0)) ≡ e
one_of_four zero e low = omega arith
one_of_four (suc zero) e low = omega arith
one_of_four (suc (suc zero)) e low = omega arith
one_of_four (suc (suc (suc zero))) e low = omega arith
one_of_four (suc (suc (suc (suc r)))) e low = absurd (omega (arith, low))

few_upto : (lines : List LooseLine) (n : ℕ) → IsGoodText lines → n ≤ length lines → events_upto lines n ≤ 24576
few_upto lines n good low =
    let sum = events_sum n lines good low in
    let q = queue_is in
    omega (arith, sum, events_few 0 n lines good (omega (arith, q)) low, events_few 1 n lines good (omega (arith, q)) low, events_few 2 n lines good (omega (arith, q)) low, events_few 3 n lines good (omega (arith, q)) low)

module _ (safe : QueuesAreSafe) (g : Geometry) (is_run : IsRunGeometry g) (fuse : FuseName) (start : State) (lines : List LooseLine) (good : IsGoodText lines) (v : QueuesState)
    (ports : Ports EmuPort) (drive_is : drive_of emu_state ports ≡ drive_in v) (faults_is : faults_on emu_faults ports ≡ faults_in v) (pick : ℕ) (images : List PortImage) (seats : List FuseSeat) (cut : AreCutPorts pick (row_of ports) images seats)
    (ack : List ℕ) (ack_are : (s : State) (h : List Tx) → IsJournal s h v → ack ≡ numbers_from (settled (state_over s h [] v)) 1 (length (drawn_in lines))) where
  facts : (h : List Tx) → IsJournal start h v → Facts journal_entries (state_over start h [] v)
  facts h j = (safe start h v [] j (λ n e. absurd (cc))).0

  long : (h : List Tx) → IsJournal start h v → IsRunGeometry start.geometry → length (ports_of v) ≡ 4
  long h j is = (facts h j).ports ∙ is.queues

  -- all lines were run
  ran : HasRun fuse start lines (length lines) v → IsCutRun g lines fuse ack images seats
  ran r =
      let h : List Tx = drawn_by lines (length lines) in
      let j = r.drawn.journal in
      let own = r.drawn.start_is.geometry_is in
      let E : ℕ → ℕ = λ q. events_on q lines (length lines) in
      let each : (q : ℕ) → q < 4 → HasHappened fuse (E q) (at_queue v q).side.port = λ q low. (r.sides q (omega (arith, low, queue_is))).happened in
      let sum : events_all lines (length lines) ≡ events_upto lines (length lines) = events_sum (length lines) lines good (omega arith) in
      let most = few_upto lines (length lines) good (omega arith) in
      record {
        own = seats_own fuse g v is_run.queues (long h j own) E each r.drawn.root ports drive_is faults_is pick images seats cut;
        count = seats_count fuse g v is_run.queues (long h j own) E each r.drawn.root ports drive_is faults_is pick images seats cut;
        shows = λ closed. subst (λ (k : Geometry). ShowsRun fuse.limit lines ack (record { geometry = k; ports = images })) (one_geometry start.geometry g own is_run)
            (ran_shows fuse start lines v good r images (is_drive start h v (facts h j) ports drive_is pick images seats cut) (are_images start h v (facts h j) ports drive_is pick images seats cut)
            (λ l limit.
            let all = happened_is fuse g v is_run.queues (long h j own) E each r.drawn.root ports drive_is faults_is pick images seats cut l limit (omega (arith, sum, most)) in
            let low = closed.few l limit in
            omega (arith, all, low, sum))
            ack ack_are);
      }

  -- the power went off in a line
  stopped : (n : ℕ) → HasStopped fuse start lines n v → IsCutRun g lines fuse ack images seats
  stopped n r =
      let h : List Tx = drawn_by lines (suc n) in
      let j = r.drawn.journal in
      let own = r.drawn.start_is.geometry_is in
      let at : ℕ = queue_of (line_at lines n) in
      let E : ℕ → ℕ = λ q. events_on q lines n + cond (eqb at q) r.events 0 in
      let each : (q : ℕ) → q < 4 → HasHappened fuse (E q) (at_queue v q).side.port = λ q low. elim (cases_eq q at) [
        | inl same ↦
            let e : events_on at lines n + r.events ≡ E q = (λ i. events_on (sym same i) lines n + r.events) ∙ ap (λ (b : Bool). events_on q lines n + cond b r.events 0) (sym (eq-eqb at q (sym same))) in
            subst (λ (m : ℕ). HasHappened fuse m (at_queue v q).side.port) e (subst (λ (k : ℕ). HasHappened fuse (events_on at lines n + r.events) (at_queue v k).side.port) (sym same) r.cut.happened)
        | inr other ↦
            let z : events_on q lines n ≡ events_on q lines n + 0 = omega arith in
            let e : events_on q lines n ≡ E q = z ∙ ap (λ (b : Bool). events_on q lines n + cond b r.events 0) (sym (ne_eqb at q (λ s. other (sym s)))) in
            subst (λ (m : ℕ). HasHappened fuse m (at_queue v q).side.port) e (r.others q (omega (arith, low, queue_is)) other).happened
      ] in
      let low_at : at < 4 = (let l = r.own in omega (arith, l, queue_is)) in
      let inside : n < length lines = r.inside in
      let one = one_of_four at r.events low_at in
      let before = events_sum n lines good (omega (arith, inside)) in
      let sum : E 0 + (E 1 + (E 2 + E 3)) ≡ events_upto lines n + r.events = omega (arith, one, before) in
      let most = few_upto lines (suc n) good (omega (arith, inside)) in
      let few = r.cut.few in
      let bound : E 0 + (E 1 + (E 2 + E 3)) ≤ 2 ^ 64 - 1 = omega (arith, sum, most, few) in
      let root = r.drawn.root in
      let off = off_at fuse g v is_run.queues (long h j own) E each root ports drive_is faults_is pick images seats cut at low_at r.cut.off in
      record {
        own = seats_own fuse g v is_run.queues (long h j own) E each root ports drive_is faults_is pick images seats cut;
        count = seats_count fuse g v is_run.queues (long h j own) E each root ports drive_is faults_is pick images seats cut;
        shows = λ closed.
            let all = happened_is fuse g v is_run.queues (long h j own) E each root ports drive_is faults_is pick images seats cut off.0 off.1 bound in
            let just = closed.off off.0 off.2 off.1 off.3 off.4 in
            subst (λ (k : Geometry). ShowsRun fuse.limit lines ack (record { geometry = k; ports = images })) (one_geometry start.geometry g own is_run)
            (stopped_shows fuse start lines v good n r images (is_drive start h v (facts h j) ports drive_is pick images seats cut) (are_images start h v (facts h j) ports drive_is pick images seats cut)
            off.0 off.1 (omega (arith, all, just, sum)) ack ack_are);
      }

  pub cut_run : HasRun fuse start lines (length lines) v ⊎ ((n : ℕ) × HasStopped fuse start lines n v) → IsCutRun g lines fuse ack images seats
  cut_run (inl r) = ran r
  cut_run (inr s) = stopped s.0 s.1
