-- The drive of zeros on which a text is committed, and what a cut leaves of it.
use Rattle.std.proofs.Common.{◌≡◌, ◌<◌, ◌≤◌, ℕ, ◌+◌, ◌*◌, ◌^◌, List, [], ◌∷◌, ◌++◌, All, length, map, get_or, Option, Some, None, refl, sym, ◌∙◌, ap, subst, arith}
use Rattle.std.specs.Prelude.{IfSome, OnErr, OnOk, Result, Ok, Err}
use Rattle.std.proofs.lemmas.List.{length-map}
use Rattle.mq_blocks.specs.Drive.{FuseName, PortImage, PortState, IsQuiescent, counted}
use Rattle.mq_blocks.specs.Geometry.{homes_of, queues_of}
use Rattle.mq_blocks.specs.Journal.{no_image, shown}
use Rattle.mq_blocks.specs.declared.geometry.Geometry.{Geometry}
use Rattle.mq_nvme.specs.Says.{journal_reading}
use Rattle.mq_drive.specs.Emu.{drawn_by, emu_faults, emu_state}
use Rattle.mq_drive.specs.Start.{IsImageOf, IsPortOf, start_of}
use Rattle.mq_drive.specs.Steps.{CommandError, Gains, PortFault}
use Rattle.mq_drive.specs.declared.emu.EmuPort.{EmuPort}
use Rattle.mq_drive.specs.declared.fuse.FuseSeat.{FuseSeat}
use Rattle.mq_drive.specs.declared.port.Ports.{Ports}
use Rattle.mq_drive.specs.declared.role.Role.TheVariants.{Queue, Root}
use Rattle.mq_drive.proofs.Start.{port_of-start, quiet-start}
use Rattle.mq_image.specs.File.{DriveImage, queue_ports, root_port}
use Rattle.mq_image_ops.specs.Cuts.{AreCutPorts, CutPort, IsCutPort, row_of}
use Rattle.mq_image_ops.specs.Empty.{IsBlankDrive}
use Rattle.mq_image_ops.specs.Starts.{AreStarted, IsFreshPort}
use Rattle.mq_image_ops.specs.Views.{port_from}
use Rattle.mq_image_ops.proofs.Views.{queue-in, queues-count, start-length, start-queue}
use Rattle.mq_ledger.specs.State.{port_at}
use Rattle.mq_recover.specs.Drives.{DriveState}
use Rattle.mq_block_text.specs.Text.{AreGoodItems, AreGoodLines}
use Rattle.mq_block_text.specs.declared.item.BlockItem.{BlockItem}
use Rattle.mq_block_text.specs.declared.item.BlockItem.TheVariants.{Set, Free}
use Rattle.mq_command_blocks.specs.Causes.{HasTextCause}
use Rattle.mq_command_blocks.specs.Commits.{AreBelow, AllBelow, IsClean, IsCleanQueue, ShowsLines, ShowsMap}
use Rattle.mq_block_trace.specs.Prefixes.{IsReached, events_of}
use Rattle.mq_command_blocks.specs.Cuts.{HasBounds, HasStopped, ShowsReached, StandsUnder, rung_after}
use Rattle.mq_block_trace.specs.Fresh.{IsTextGeometry}
use Rattle.mq_command_blocks.specs.Left.{IsCutText}
use Rattle.mq_block_trace.specs.Lines.{map_after}
use Rattle.mq_command_blocks.specs.Ports.{the_queue}
use Rattle.mq_command_blocks.specs.declared.commit.TextRefusal.{TextRefusal}
use Rattle.mq_command_blocks.specs.declared.commit.TextRefusal.TheVariants.{Off, Failed, OutOfMemory}
use Rattle.mq_command_blocks.proofs.CutsTexts.{all_stand, none_failed, reached_stand}
use Rattle.mq_command_blocks.proofs.OnePort.{at_first, first_mapped, has_one, only_one}

abbrev Lines : Type 0
Lines = List (List BlockItem)

-- ---- the geometry of texts

pub text_homes : (g : Geometry) → IsTextGeometry g → homes_of g ≡ 256
text_homes g t =
    let one : g.queues * g.zone ≡ 1 * g.zone = ap (λ (n : ℕ). n * g.zone) t.queues in
    omega (arith, one, t.meta, t.zone)

items_below : (homes : ℕ) (is : List BlockItem) → homes ≡ 256 → AreGoodItems is → AreBelow homes is
items_below homes [] size good = tt
items_below homes (Set b v ∷ is) size good = (let le : b ≤ 255 = good.0.0 in omega arith, items_below homes is size good.2)
items_below homes (Free b ∷ is) size good = (let le : b ≤ 255 = good.0 in omega arith, items_below homes is size good.2)

-- good lines name blocks below 256 alone
pub lines_below : (homes : ℕ) (lines : Lines) → homes ≡ 256 → AreGoodLines lines → AllBelow homes lines
lines_below homes [] size good = tt
lines_below homes ([] ∷ ls) size good = absurd good.0
lines_below homes ((i ∷ is) ∷ ls) size good = (items_below homes (i ∷ is) size good.0, lines_below homes ls size good.1)

-- ---- two ports are cut

-- the images and the seats of two ports
pub record AreTwoCut (pick : ℕ) (queue root : EmuPort) (images : List PortImage) (seats : List FuseSeat) : Type 0 where
  pub queue_image : PortImage
  pub root_image : PortImage
  pub queue_seat : FuseSeat
  pub root_seat : FuseSeat
  pub images_are : images ≡ queue_image ∷ root_image ∷ []
  pub seats_are : seats ≡ queue_seat ∷ root_seat ∷ []
  pub queue_cut : IsCutPort pick queue queue_image queue_seat
  pub root_cut : IsCutPort pick root root_image root_seat

pub two_cut : (pick : ℕ) (queue root : EmuPort) (images : List PortImage) (seats : List FuseSeat) → AreCutPorts pick (queue ∷ root ∷ []) images seats → AreTwoCut pick queue root images seats
two_cut pick queue root images seats cut = of cut.cuts cut.each cut.ports_are cut.images_are cut.seats_are
  where
    of : (cs : List CutPort) → All (λ (c : CutPort). IsCutPort pick c.port c.image c.seat) cs → queue ∷ root ∷ [] ≡ map (λ (c : CutPort). c.port) cs → images ≡ map (λ (c : CutPort). c.image) cs → seats ≡ map (λ (c : CutPort). c.seat) cs → AreTwoCut pick queue root images seats
    of [] each ports are own = let long = ap length ports in absurd (omega (arith, long))
    of (c ∷ []) each ports are own = let long = ap length ports in absurd (omega (arith, long))
    of (c ∷ d ∷ []) each ports are own = record {
      queue_image = c.image;
      root_image = d.image;
      queue_seat = c.seat;
      root_seat = d.seat;
      images_are = are;
      seats_are = own;
      queue_cut = subst (λ (p : EmuPort). IsCutPort pick p c.image c.seat) (sym (ap (λ (l : List EmuPort). get_or l 0 queue) ports)) (each 0 c (omega arith));
      root_cut = subst (λ (p : EmuPort). IsCutPort pick p d.image d.seat) (sym (ap (λ (l : List EmuPort). get_or l 1 root) ports)) (each 1 d (omega arith));
    }
    of (c ∷ d ∷ e ∷ cs) each ports are own = let long = ap length ports in absurd (omega (arith, long))

-- ---- what stands after a commit

-- what a refusal left of a queue's port, where `Shows` says of a number of lines that they stand
record HasLeft (lines : Lines) (old new : PortState) (Shows : ℕ → Type 0) : Type 0 where
  pub events : ℕ
  pub stopped : HasStopped old new lines events
  pub count : ℕ
  pub reached : IsReached lines events count
  pub shows : Shows count

map_ok : {A E : Type 0} {P Q : Type 0} (r : Result A E) → OnOk r P → (P → Q) → OnOk r Q
map_ok (Ok _) p f = f p
map_ok (Err _) p f = tt

map_err : {A E : Type 0} {P Q : Type 0} (r : Result A E) → OnErr r P → (P → Q) → OnErr r Q
map_err (Ok _) p f = tt
map_err (Err _) p f = f p

-- how many lines stand, by the tickets of the queue's port
stood : {A : Type 0} (lines : Lines) (answer : Result A TextRefusal) (limit : Option ℕ) (p q : EmuPort) (doorbell : ℕ) (Shows : ℕ → Type 0)
    → IfSome limit (λ k. k < 2 ^ 63) → (emu_state q).fuse.limit ≡ limit → (emu_state q).begins ≡ 0 → (emu_state p).events ≡ 0 → (emu_state p).doorbell ≡ 0 → doorbell ≡ (emu_state q).doorbell
    → OnOk answer (Shows (length lines)) → OnOk answer ((emu_state q).events ≡ counted (emu_state p).events (events_of lines (length lines)))
    → OnOk answer ((emu_state q).doorbell ≡ (emu_state p).doorbell + rung_after lines (events_of lines (length lines))) → OnErr answer (HasLeft lines (emu_state p) (emu_state q) Shows)
    → HasTextCause answer (emu_faults p) (emu_faults q) → (answer ≡ Err OutOfMemory → ⊥) → ((status : ℕ) → answer ≡ Err (Failed status) → ⊥)
    → (n : ℕ) × StandsUnder lines limit (drawn_by q) doorbell n × Shows n
stood lines (Ok _) limit p q doorbell Shows small power begins none low same ok events rung left cause memory failed =
    let all : ℕ = events_of lines (length lines) in
    let counts : (emu_state q).events ≡ counted (emu_state p).events all = events in
    let bell : (emu_state q).doorbell ≡ (emu_state p).doorbell + rung_after lines all = rung in
    (length lines, all_stand lines limit q doorbell small power begins (counts ∙ ap (λ (n : ℕ). counted n all) none) (omega (arith, low, same, bell)), ok)
stood lines (Err Off) limit p q doorbell Shows small power begins none low same ok events rung refused cause memory failed =
    let left : HasLeft lines (emu_state p) (emu_state q) Shows = refused in
    let stopped = left.stopped in
    let bell : (emu_state q).doorbell ≡ (emu_state p).doorbell + rung_after lines left.events = stopped.rung in (
      left.count,
      reached_stand lines limit (emu_faults p) q left.events left.count doorbell small power begins (stopped.events_are ∙ ap (λ (n : ℕ). counted n left.events) none) cause left.reached stopped.few (omega (arith, low, same, bell)),
      left.shows,
    )
stood lines (Err OutOfMemory) limit p q doorbell Shows small power begins none low same ok events rung left cause memory failed = absurd (memory refl)
stood lines (Err (Failed status)) limit p q doorbell Shows small power begins none low same ok events rung left cause memory failed = absurd (failed status refl)

-- ---- the drive that starts

-- the same with its geometry under another name
pub blank_here : (g : Geometry) (x : DriveImage) → IsBlankDrive g x → IsBlankDrive g (record { geometry = g; ports = x.ports })
blank_here g x blank = subst (λ (h : Geometry). IsBlankDrive g (record { geometry = h; ports = x.ports })) blank.geometry_is blank

pub started_here : (g : Geometry) (f : FuseName) (x : DriveImage) (ports : Ports EmuPort) → x.geometry ≡ g → AreStarted f None x ports → AreStarted f None (record { geometry = g; ports = x.ports }) ports
started_here g f x ports same started = subst (λ (h : Geometry). AreStarted f None (record { geometry = h; ports = x.ports }) ports) same started

module _ (g : Geometry) (text : IsTextGeometry g) (f : FuseName) (is : List PortImage) (blank : IsBlankDrive g (record { geometry = g; ports = is })) (old : Ports EmuPort) (started : AreStarted f None (record { geometry = g; ports = is }) old) where
  abbrev x : DriveImage
  x = record { geometry = g; ports = is }

  abbrev queue : PortImage
  queue = get_or is 0 no_image

  abbrev root : PortImage
  root = root_port x

  low : 0 < g.queues
  low = let one = text.queues in omega (arith, one)

  pub count : length old.queues.items ≡ 1
  count = sym (length-map old.queues.items emu_state) ∙ ap (λ (d : DriveState). length d.queues) started.states ∙ start-length g f None 0 (queue_ports x) ∙ queues-count x blank.drive ∙ text.queues

  root_is : emu_state old.root ≡ start_of g Root root f None
  root_is = ap (λ (d : DriveState). d.root) started.states

  queue_image : IsImageOf g (Queue 0) queue
  queue_image = blank.drive.queues 0 low

  module _ (p : EmuPort) (at : the_queue old ≡ Some p) where
    queue_is : emu_state p ≡ start_of g (Queue 0) queue f None
    queue_is =
        let first : port_at (map emu_state old.queues.items) 0 ≡ emu_state p = first_mapped emu_state old.queues.items p _ at in
        sym first
        ∙ ap (λ (d : DriveState). port_at d.queues 0) started.states
        ∙ start-queue f None x 0 blank.drive low
        ∙ ap (port_from g f None (Queue 0)) (queue-in x 0 low)

    no_faults : emu_faults p ≡ []
    no_faults = (at_first IsFreshPort old.queues.items p at started.queues).faults

    bell : (emu_state p).doorbell ≡ 0
    bell = ap (λ (s : PortState). s.doorbell) queue_is ∙ (blank.unused 0 (omega arith)).doorbell

    -- its words are 0
    pub clean : IsClean g (emu_state p) (emu_state old.root)
    clean =
        let doorbell : queue.doorbell ≡ 0 = (blank.unused 0 (omega arith)).doorbell in
        let head : queue.head ≡ 0 = (blank.unused 0 (omega arith)).head in
        let first : IsCleanQueue g (start_of g (Queue 0) queue f None) = record {
          one = text.queues;
          port = port_of-start g (Queue 0) queue f None queue_image;
          quiet = quiet-start g (Queue 0) queue f None;
          done = head ∙ sym doorbell;
          low = omega (arith, doorbell);
          before = λ (some : 0 < queue.head). absurd (omega (arith, some, head));
        } in record {
          queue_clean = subst (IsCleanQueue g) (sym queue_is) first;
          root_port = subst (IsPortOf g Root) (sym root_is) (port_of-start g Root root f None blank.drive.root);
          root_quiet = subst IsQuiescent (sym root_is) (quiet-start g Root root f None);
          base = ap (λ (s : PortState). s.base) root_is ∙ (blank.unused (queues_of g) (omega arith)).base;
        }

  -- ---- a commit

  module _ {A : Type 0} (lines : Lines) (new : Ports EmuPort) (answer : Result A TextRefusal) (one : length new.queues.items ≡ 1)
      (bounds : (p q : EmuPort) → the_queue old ≡ Some p → the_queue new ≡ Some q → HasBounds (emu_state p) (emu_state q))
      (cause : (p q : EmuPort) → the_queue old ≡ Some p → the_queue new ≡ Some q → HasTextCause answer (emu_faults p) (emu_faults q)) where
    abbrev p : EmuPort
    p = (has_one old.queues.items count).0

    before : the_queue old ≡ Some p
    before = (has_one old.queues.items count).1

    abbrev q : EmuPort
    q = (has_one new.queues.items one).0

    after : the_queue new ≡ Some q
    after = (has_one new.queues.items one).1

    kept : HasBounds (emu_state p) (emu_state q)
    kept = bounds p q before after

    -- no command fails
    pub never_failed : (status : ℕ) → answer ≡ Err (Failed status) → ⊥
    never_failed status is =
        let failed : (tx : ℕ) × Gains (CommandError tx status) (emu_faults p) (emu_faults q) = subst (λ (r : Result A TextRefusal). HasTextCause r (emu_faults p) (emu_faults q)) is (cause p q before after) in
        none_failed q failed.0 status (kept.fail ∙ ap (λ (s : PortState). s.fail) (queue_is p before)) (subst (λ (l : List PortFault). Gains (CommandError failed.0 status) l (emu_faults q)) (no_faults p before) failed.1)

    module _ (same : new.root ≡ old.root) (port : (q : EmuPort) → the_queue new ≡ Some q → IsPortOf g (Queue 0) (emu_state q))
        (ok : OnOk answer ((q : EmuPort) → the_queue new ≡ Some q → ShowsLines g (emu_state q) (emu_state new.root) lines (length lines)))
        (events : OnOk answer ((p q : EmuPort) → the_queue old ≡ Some p → the_queue new ≡ Some q → (emu_state q).events ≡ counted (emu_state p).events (events_of lines (length lines))))
        (rung : OnOk answer ((p q : EmuPort) → the_queue old ≡ Some p → the_queue new ≡ Some q → (emu_state q).doorbell ≡ (emu_state p).doorbell + rung_after lines (events_of lines (length lines))))
        (cut : OnErr answer ((p q : EmuPort) → the_queue old ≡ Some p → the_queue new ≡ Some q → (e : ℕ) × HasStopped (emu_state p) (emu_state q) lines e × ShowsReached g (emu_state q) (emu_state new.root) lines e))
        (memory : answer ≡ Err OutOfMemory → ⊥) (small : IfSome f.limit (λ k. k < 2 ^ 63))
        (pick : ℕ) (images : List PortImage) (seats : List FuseSeat) (left : AreCutPorts pick (row_of new) images seats) where
      two : AreTwoCut pick q new.root images seats
      two = two_cut pick q new.root images seats (subst (λ (l : List EmuPort). AreCutPorts pick (l ++ new.root ∷ []) images seats) (only_one new.queues.items q one after) left)

      abbrev Shows : ℕ → Type 0
      Shows n = ShowsMap g (shown journal_reading g (two.queue_image ∷ []) two.root_image) n (map_after lines n)

      fuse_is : (emu_state q).fuse ≡ f
      fuse_is = kept.fuse ∙ ap (λ (s : PortState). s.fuse) (queue_is p before)

      new_root : emu_state new.root ≡ start_of g Root root f None
      new_root = ap emu_state same ∙ root_is

      standing : (n : ℕ) × StandsUnder lines f.limit (drawn_by q) two.queue_image.doorbell n × Shows n
      standing =
          stood lines answer f.limit p q two.queue_image.doorbell Shows small (ap (λ (n : FuseName). n.limit) fuse_is) (kept.begins ∙ ap (λ (s : PortState). s.begins) (queue_is p before))
          (ap (λ (s : PortState). s.events) (queue_is p before)) (bell p before) two.queue_cut.image.doorbell
          (map_ok answer ok (λ all. all q after two.queue_image two.root_image two.queue_cut.image two.root_cut.image))
          (map_ok answer events (λ all. all p q before after))
          (map_ok answer rung (λ all. all p q before after))
          (map_err answer cut (λ all. has_left (all p q before after)))
          (cause p q before after) memory never_failed
        where
          has_left : (e : ℕ) × HasStopped (emu_state p) (emu_state q) lines e × ShowsReached g (emu_state q) (emu_state new.root) lines e → HasLeft lines (emu_state p) (emu_state q) Shows
          has_left stopped =
              let shows = stopped.2 two.queue_image two.root_image two.queue_cut.image two.root_cut.image in
              record { events = stopped.0; stopped = stopped.1; count = shows.0; reached = shows.1; shows = shows.2 }

      pub committed : IsCutText g lines f images seats
      committed = record {
        queue = two.queue_image;
        root = two.root_image;
        images_are = two.images_are;
        queue_image = two.queue_cut.role g (Queue 0) (port q after);
        root_image = two.root_cut.role g Root (subst (IsPortOf g Root) (sym new_root) (port_of-start g Root root f None blank.drive.root));
        queue_seat = two.queue_seat;
        root_seat = two.root_seat;
        seats_are = two.seats_are;
        queue_own = two.queue_cut.fuse ∙ fuse_is;
        root_own = two.root_cut.fuse ∙ ap (λ (s : PortState). s.fuse) new_root;
        idle = two.root_cut.tickets ∙ ap drawn_by same ∙ started.root.tickets;
        p = standing.0;
        stands = subst (λ (ts : List ℕ). StandsUnder lines f.limit ts two.queue_image.doorbell standing.0) (sym two.queue_cut.tickets) standing.1;
        shows = standing.2;
      }
