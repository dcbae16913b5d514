-- What a cut of the power leaves of the ports of the queues: images of a drive, and the tickets of the seats.
use Rattle.std.proofs.Common.{◌≡◌, ◌<◌, ◌≤◌, ◌^◌, ℕ, zero, suc, ◌+◌, ◌-◌, List, [], ◌∷◌, ◌++◌, All, length, map, get_or, Option, Some, None, refl, sym, ◌∙◌, ap, subst, arith}
use Rattle.std.specs.Prelude.{Contains, slice_get}
use Rattle.std.proofs.lemmas.List.{length-map, map_push}
use Rattle.mq_blocks.specs.Drive.{FuseName, IsImage, PortImage, PortState}
use Rattle.mq_blocks.specs.Journal.{image_at}
use Rattle.mq_blocks.specs.Totals.{total}
use Rattle.mq_blocks.specs.declared.geometry.Geometry.{Geometry}
use Rattle.mq_drive.proofs.StartRolePorts.{is-port_of}
use Rattle.mq_drive.proofs.StepsFaults.{some_off}
use Rattle.mq_drive.specs.Emu.{drawn_by, emu_faults, emu_state}
use Rattle.mq_drive.specs.Fuse.{above}
use Rattle.mq_drive.specs.Seats.{fuse_of, tickets_of}
use Rattle.mq_drive.specs.Steps.{PortFault, PowerOff}
use Rattle.mq_drive.specs.declared.emu.EmuPort.{EmuPort}
use Rattle.mq_drive.specs.declared.fuse.FuseSeat.{FuseSeat}
use Rattle.mq_drive.specs.declared.port.Ports.{Ports}
use Rattle.mq_drive.specs.declared.role.Role.TheVariants.{Queue, Root}
use Rattle.mq_image.specs.Drives.{IsDrive}
use Rattle.mq_image.specs.File.{DriveImage, queue_ports, root_port}
use Rattle.mq_image_ops.proofs.CutsRecoverings.{left-drive, left-images, row-at, row-long}
use Rattle.mq_image_ops.proofs.CutsRows.{IsLimited, happened-all, seat-of, seats-long, seats-own}
use Rattle.mq_image_ops.proofs.RecoveringTally.{tally}
use Rattle.mq_image_ops.specs.Cuts.{AreCutPorts, happened_at, row_of}
use Rattle.mq_ledger.specs.State.{AreImages, State, port_at}
use Rattle.mq_ledger.specs.Written.{journal_entries}
use Rattle.mq_ledger.specs.declared.tx.Tx.{Tx}
use Rattle.mq_loose.specs.Safe.{Facts}
use Rattle.mq_loose_queues.proofs.Ports.{mapped, port_is}
use Rattle.mq_loose_queues.specs.Journal.{state_over}
use Rattle.mq_loose_queues.specs.Queues.{QueuesState, StoredSide, at_queue, drive_in, faults_in, no_side, ports_of}
use Rattle.mq_recover.specs.Drives.{ArePorts, DriveFaults, DriveState, drive_of, faults_on}
use Rattle.mq_loose_run.specs.Lines.{HasHappened}

-- ---- the images

module _ (s : State) (h : List Tx) (v : QueuesState) (f : Facts journal_entries (state_over s h [] v)) (ports : Ports EmuPort) (drive_is : drive_of emu_state ports ≡ drive_in v) (pick : ℕ) (images : List PortImage) (seats : List FuseSeat) (cut : AreCutPorts pick (row_of ports) images seats) where
  abbrev x : DriveImage
  x = record { geometry = s.geometry; ports = images }

  are_ports : ArePorts s.geometry (drive_of emu_state ports)
  are_ports = subst (ArePorts s.geometry) (sym drive_is) (record {
    count = f.ports;
    each = λ q own. is-port_of {role = Queue q} (f.sides q own).port (λ k low flushed. sym ((f.sides q own).ring.settled k flushed));
    root = is-port_of {role = Root} f.root.port (λ k low flushed. absurd (let l = f.root.port.flushed in omega (arith, l, low)));
  })

  pub is_drive : IsDrive x
  is_drive = left-drive x ports pick images seats cut are_ports

  pub are_images : AreImages (state_over s h [] v) (queue_ports x) (root_port x)
  are_images =
      let left = left-images x ports pick images seats cut are_ports in
      record {
        each = λ q own. subst (λ (d : DriveState). IsImage (port_at d.queues q) (image_at (queue_ports x) q)) drive_is (left.each q own);
        root_is = subst (λ (d : DriveState). IsImage d.root (root_port x)) drive_is left.root_is;
      }

-- ---- the seats

total_four : (f : PortState → ℕ) (ps : List PortState) (r : PortState) → length ps ≡ 4 → total f (ps ++ r ∷ []) ≡ f (port_at ps 0) + (f (port_at ps 1) + (f (port_at ps 2) + (f (port_at ps 3) + f r)))
total_four f [] r four = absurd (omega (arith, four))
total_four f (a ∷ []) r four = absurd (omega (arith, four))
total_four f (a ∷ b ∷ []) r four = absurd (omega (arith, four))
total_four f (a ∷ b ∷ c ∷ []) r four = absurd (omega (arith, four))
total_four f (a ∷ b ∷ c ∷ d ∷ []) r four = omega arith
total_four f (a ∷ b ∷ c ∷ d ∷ e ∷ ps) r four = absurd (omega (arith, four))

there : (ps : List EmuPort) (r : EmuPort) (q : ℕ) → q < length ps → (p : EmuPort) × (slice_get (ps ++ r ∷ []) q ≡ Some p) × (get_or (map emu_state ps) q (emu_state r) ≡ emu_state p) × (get_or (map emu_faults ps) q [] ≡ emu_faults p)
there [] r q low = absurd (omega (arith, low))
there (p ∷ ps) r zero low = (p, refl, refl, refl)
there (p ∷ ps) r (suc q) low = there ps r q (omega (arith, low))

any_else : (l : List PortState) (q : ℕ) (d e : PortState) → q < length l → get_or l q d ≡ get_or l q e
any_else [] q d e low = absurd (omega (arith, low))
any_else (s ∷ l) zero d e low = refl
any_else (s ∷ l) (suc q) d e low = any_else l q d e (omega (arith, low))

-- the power of a port went off: its fuse has a limit, and its seat drew a ticket at or above it
off_of : (p : EmuPort) (fuse : FuseName) → (emu_state p).fuse ≡ fuse → Contains (emu_faults p) PowerOff → (limit : Option ℕ) → fuse.limit ≡ limit → (l : ℕ) × (limit ≡ Some l) × (0 < above l (drawn_by p))
off_of p fuse own has None is =
    let some = some_off p.device.value.power.offs p.device.value.failure has in
    let none = p.device.value.power.unlimited (ap (λ (n : FuseName). n.limit) own ∙ is) in
    absurd (omega (arith, some, none))
off_of p fuse own has (Some l) is = (l, refl, p.device.value.power.off l (ap (λ (n : FuseName). n.limit) own ∙ is) (some_off p.device.value.power.offs p.device.value.failure has))

module _ (fuse : FuseName) (g : Geometry) (v : QueuesState) (four : g.queues ≡ 4) (long : length (ports_of v) ≡ 4) (E : ℕ → ℕ) (each : (q : ℕ) → q < 4 → HasHappened fuse (E q) (at_queue v q).side.port) (root : HasHappened fuse 0 v.root)
    (ports : Ports EmuPort) (drive_is : drive_of emu_state ports ≡ drive_in v) (faults_is : faults_on emu_faults ports ≡ faults_in v) (pick : ℕ) (images : List PortImage) (seats : List FuseSeat) (cut : AreCutPorts pick (row_of ports) images seats) where
  abbrev d : DriveState
  d = drive_of emu_state ports

  count : length ports.queues.items ≡ g.queues
  count = sym (length-map ports.queues.items emu_state) ∙ ap (λ (e : DriveState). length e.queues) drive_is ∙ long ∙ sym four

  queue_is : (q : ℕ) → port_at d.queues q ≡ (at_queue v q).side.port
  queue_is q = ap (λ (e : DriveState). port_at e.queues q) drive_is ∙ port_is v q

  root_is : d.root ≡ v.root
  root_is = ap (λ (e : DriveState). e.root) drive_is

  each_in : (q : ℕ) → q < g.queues → HasHappened fuse (E q) (port_at d.queues q)
  each_in q low = subst (HasHappened fuse (E q)) (sym (queue_is q)) (each q (omega (arith, low, four)))

  root_in : HasHappened fuse 0 d.root
  root_in = subst (HasHappened fuse 0) (sym root_is) root

  pub seats_own : All (λ s. fuse_of s ≡ fuse) seats
  seats_own = seats-own pick (row_of ports) images seats cut fuse (row-at g ports count (λ k s. s.fuse ≡ fuse) (λ q low. (each_in q low).fuse_is) root_in.fuse_is)

  pub seats_count : length seats ≡ g.queues + 1
  seats_count = seats-long pick (row_of ports) images seats cut ∙ row-long g ports count

  abbrev sum : ℕ
  sum = E 0 + (E 1 + (E 2 + E 3))

  -- no home write has begun
  tally_is : (e : ℕ) (s : PortState) → HasHappened fuse e s → tally s ≡ e
  tally_is e s is = (let b = is.begins in let n = is.events_are in omega (arith, b, n))

  row_sum : total tally (map emu_state (row_of ports)) ≡ sum
  row_sum =
      let at = total_four tally d.queues d.root (ap (λ (e : DriveState). length e.queues) drive_is ∙ long) in
      let a = tally_is (E 0) (port_at d.queues 0) (each_in 0 (omega (arith, four))) in
      let b = tally_is (E 1) (port_at d.queues 1) (each_in 1 (omega (arith, four))) in
      let c = tally_is (E 2) (port_at d.queues 2) (each_in 2 (omega (arith, four))) in
      let e = tally_is (E 3) (port_at d.queues 3) (each_in 3 (omega (arith, four))) in
      let r = tally_is 0 d.root root_in in
      ap (total tally) (map_push emu_state ports.queues.items ports.root) ∙ at ∙ (let s : tally (port_at d.queues 0) + (tally (port_at d.queues 1) + (tally (port_at d.queues 2) + (tally (port_at d.queues 3) + tally d.root))) ≡ sum = omega (arith, a, b, c, e, r) in s)

  pub happened_is : (l : ℕ) → fuse.limit ≡ Some l → sum ≤ 2 ^ 64 - 1 → happened_at l seats ≡ sum
  happened_is l limit few =
      let row = row_sum in
      happened-all pick (row_of ports) images seats cut l
      (row-at g ports count (λ k s. IsLimited l s) (λ q low. record { limit = ap (λ (n : FuseName). n.limit) (each_in q low).fuse_is ∙ limit; sound = (each_in q low).fail }) (record { limit = ap (λ (n : FuseName). n.limit) root_in.fuse_is ∙ limit; sound = root_in.fail }))
      (omega (arith, row, few))
      ∙ row

  -- the power of a queue's port went off
  pub off_at : (q : ℕ) → q < 4 → Contains (at_queue v q).side.faults PowerOff → (l : ℕ) × (fuse.limit ≡ Some l) × (s : FuseSeat) × Contains seats s × (0 < above l (tickets_of s))
  off_at q low has =
      let at = there ports.queues.items ports.root q (let n = count in omega (arith, low, four, n)) in
      let p : EmuPort = at.0 in
      let state : emu_state p ≡ port_at d.queues q = sym at.2 ∙ any_else d.queues q d.root _ (let n = length-map ports.queues.items emu_state in let m = count in omega (arith, low, four, n, m)) in
      let faults : (at_queue v q).side.faults ≡ emu_faults p =
      sym (mapped (λ (s : StoredSide). s.side.faults) v.sides q (no_side v.geometry)) ∙ sym (ap (λ (e : DriveFaults). get_or e.queues q []) faults_is) ∙ at.3 in
      let off = off_of p fuse (ap (λ (s : PortState). s.fuse) state ∙ (each_in q (omega (arith, low, four))).fuse_is) (subst (λ (fs : List PortFault). Contains fs PowerOff) faults has) fuse.limit refl in
      let seat = seat-of pick (row_of ports) images seats cut q p at.1 in
      (off.0, off.1, seat.0, seat.1, subst (λ (ts : List ℕ). 0 < above off.0 ts) (sym seat.2) off.2)
