-- What the seats of a drive show, once its power was cut.
use Rattle.std.proofs.Common.{◌≡◌, ℕ, Bool, zero, suc, ◌+◌, ◌<◌, List, [], ◌∷◌, All, Option, None, Some, length, map, get_or, refl, sym, ap, subst, ◌∙◌, arith}
use Rattle.std.specs.Prelude.{Contains}
use Rattle.std.proofs.lemmas.List.{length-map}
use Rattle.mq_blocks.specs.Drive.{FuseName, PortImage, PortState}
use Rattle.mq_blocks.specs.Geometry.{queues_of}
use Rattle.mq_blocks.specs.Totals.{total}
use Rattle.mq_drive.specs.Emu.{emu_faults, emu_state}
use Rattle.mq_drive.specs.Fuse.{above, below}
use Rattle.mq_drive.specs.Seats.{fuse_of, tickets_of}
use Rattle.mq_drive.specs.Steps.{PowerOff}
use Rattle.mq_drive.specs.declared.emu.EmuPort.{EmuPort}
use Rattle.mq_drive.specs.declared.fuse.FuseSeat.{FuseSeat}
use Rattle.mq_drive.specs.declared.port.Ports.{Ports}
use Rattle.mq_image.specs.Drives.{IsDrive}
use Rattle.mq_image.specs.File.{DriveImage}
use Rattle.mq_image_ops.specs.Cuts.{CutPort, IsCutPort, row_of}
use Rattle.mq_image_ops.proofs.CutsRows.{seats-long, seats-own}
use Rattle.mq_image_ops.proofs.CutsRecoverings.{row-each, row-long}
use Rattle.mq_image_ops.proofs.Views.{start-queue}
use Rattle.mq_ledger.specs.State.{port_at}
use Rattle.mq_recover.specs.Drives.{DriveState, drive_of}
use Rattle.mq_recover.proofs.DrivesZones.{IsZone, port_in}
use Rattle.mq_image_run.specs.Drives.{IsDriven, events_on}
use Rattle.mq_image_run.specs.declared.options.DriveOptions.{DriveOptions}

mapped : (ps : List EmuPort) (k : ℕ) (p : EmuPort) → get_or ps k p ≡ p → get_or (map emu_state ps) k (emu_state p) ≡ emu_state p
mapped [] k p at = refl
mapped (q ∷ ps) zero p at = ap emu_state at
mapped (q ∷ ps) (suc k) p at = mapped ps k p at

-- the cut of a port in a row
cut-of : (pick : ℕ) (cs : List CutPort) → All (λ c. IsCutPort pick c.port c.image c.seat) cs → (k : ℕ) (p : EmuPort) → k < length cs → get_or (map (λ (c : CutPort). c.port) cs) k p ≡ p
    → (c : CutPort) × Contains (map (λ (c : CutPort). c.seat) cs) c.seat × (c.port ≡ p) × IsCutPort pick c.port c.image c.seat
cut-of pick [] each k p low at = absurd (omega (arith, low))
cut-of pick (c ∷ cs) each zero p low at = (c, (0, omega arith, refl), at, each 0 c (omega arith))
cut-of pick (c ∷ cs) each (suc k) p low at =
    let rest = cut-of pick cs (λ j d less. each (suc j) d (omega (arith, less))) k p (omega (arith, low)) at in
    let within = rest.1.1 in
    (rest.0, (suc rest.1.0, omega (arith, within), rest.1.2), rest.2, rest.3)

module _ {T : Type 0} (Plays : Ports EmuPort → T → Ports EmuPort → Type 0) (fuse : FuseName) (y : DriveImage) (drive : IsDrive y) (o : DriveOptions) (played : T) (failed : Bool) (images : List PortImage) (seats : List FuseSeat) (driven : IsDriven Plays fuse y o played failed images seats) where
  abbrev row : List EmuPort
  row = row_of driven.end

  count : length driven.end.queues.items ≡ queues_of y.geometry
  count = sym (length-map driven.end.queues.items emu_state) ∙ driven.kept.same_ports.count

  -- each port has the fuse of the drive
  bound : (z : Option ℕ) → IsZone y.geometry z → (port_in (drive_of emu_state driven.end) z).fuse ≡ fuse
  bound None zone = driven.kept.bounds.root.fuse ∙ ap (λ (s : DriveState). s.root.fuse) driven.started.states
  bound (Some q) zone =
      (driven.kept.bounds.queues q zone).fuse
      ∙ (ap (λ (s : DriveState). (port_at s.queues q).fuse) driven.started.states
      ∙ ap (λ (s : PortState). s.fuse) (start-queue fuse o.fail y q drive zone))

  fuses : (k : ℕ) (s : PortState) → k < length row → (get_or (map emu_state row) k s).fuse ≡ fuse
  fuses = row-each y.geometry driven.end count (λ s. s.fuse ≡ fuse) bound

  pub own-seats : All (λ s. fuse_of s ≡ fuse) seats
  own-seats = seats-own o.pick row images seats driven.cut fuse fuses

  pub all-seats : length seats ≡ queues_of y.geometry + 1
  all-seats = seats-long o.pick row images seats driven.cut ∙ row-long y.geometry driven.end count

  -- a port that the row contains has the fuse of the drive
  pub own-fuse : (p : EmuPort) → Contains row p → (emu_state p).fuse ≡ fuse
  own-fuse p own = ap (λ (s : PortState). s.fuse) (sym (mapped row own.0 p own.2)) ∙ fuses own.0 (emu_state p) own.1

  -- where a port refused an event for its power, a seat drew a ticket at or above the limit
  pub off-seat : (l : ℕ) (p : EmuPort) → fuse.limit ≡ Some l → Contains row p → Contains (emu_faults p) PowerOff → (s : FuseSeat) × Contains seats s × (0 < above l (tickets_of s))
  off-seat l p limit own off =
      let cut = driven.cut in
      let has : Contains (map (λ (c : CutPort). c.port) cut.cuts) p = subst (λ (ps : List EmuPort). Contains ps p) cut.ports_are own in
      let within = has.1 in
      let long = length-map cut.cuts (λ (c : CutPort). c.port) in
      let one = cut-of o.pick cut.cuts cut.each has.0 p (omega (arith, within, long)) has.2 in
      let limited : (emu_state one.0.port).fuse.limit ≡ Some l = ap (λ (q : EmuPort). (emu_state q).fuse.limit) one.2 ∙ (ap (λ (f : FuseName). f.limit) (own-fuse p own) ∙ limit) in
      let more : 0 < above l (tickets_of one.0.seat) = one.3.off l limited (subst (λ (q : EmuPort). Contains (emu_faults q) PowerOff) (sym one.2) off) in
      (one.0.seat, subst (λ (ss : List FuseSeat). Contains ss one.0.seat) (sym cut.seats_are) one.1, more)

  -- the tickets of all seats that are below the limit are the events that happened on all ports
  module _ (l : ℕ) (limit : fuse.limit ≡ Some l) where
    sum : (cs : List CutPort) → All (λ c. IsCutPort o.pick c.port c.image c.seat) cs → ((k : ℕ) (s : PortState) → k < length cs → (get_or (map emu_state (map (λ (c : CutPort). c.port) cs)) k s).fuse ≡ fuse)
        → total (λ s. below l (tickets_of s)) (map (λ (c : CutPort). c.seat) cs) ≡ events_on (map (λ (c : CutPort). c.port) cs)
    sum [] each of = refl
    sum (c ∷ cs) each of =
        let one = (each 0 c (omega arith)).events l (ap (λ (f : FuseName). f.limit) (of 0 (emu_state c.port) (omega arith)) ∙ limit) in
        let rest = sum cs (λ k d low. each (suc k) d (omega (arith, low))) (λ k s low. of (suc k) s (omega (arith, low))) in
        omega (arith, one, rest)

    pub sum-is : total (λ s. below l (tickets_of s)) seats ≡ events_on row
    sum-is =
        let cut = driven.cut in
        let long : length row ≡ length cut.cuts = ap length cut.ports_are ∙ length-map cut.cuts (λ (c : CutPort). c.port) in
        ap (total (λ s. below l (tickets_of s))) cut.seats_are
        ∙ sum cut.cuts cut.each (λ k s low. subst (λ (ps : List EmuPort). (get_or (map emu_state ps) k s).fuse ≡ fuse) cut.ports_are (fuses k s (omega (arith, low, long))))
        ∙ ap events_on (sym cut.ports_are)
