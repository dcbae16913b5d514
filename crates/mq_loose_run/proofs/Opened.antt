-- The queues over the ports of a drive of zeros, on which no line was run.
use Rattle.std.proofs.Common.{◌≡◌, ◌⊎◌, ◌<◌, ◌≤◌, inl, inr, ℕ, zero, suc, ◌+◌, ◌-◌, ◌*◌, Bool, false, List, [], ◌∷◌, length, map, replicate, get_or, All, Option, Some, None, refl, sym, ◌∙◌, ap, subst, arith}
use Rattle.std.proofs.lemmas.Bool.{cases_lt}
use Rattle.std.proofs.lemmas.List.{get_or-replicate, length-map, length-replicate}
use Rattle.std.proofs.lemmas.Option.{same_Some}
use Rattle.mq_blocks.specs.Blocks.{content, zeros}
use Rattle.mq_blocks.specs.Descriptor.{journal_form}
use Rattle.mq_blocks.specs.Drive.{FuseName, PortImage, PortState}
use Rattle.mq_blocks.specs.Geometry.{homes_of, queues_of, zone_of}
use Rattle.mq_blocks.specs.Journal.{AreWhole, ShowsNumber, Shown, home_block, image_at, no_image}
use Rattle.mq_blocks.specs.declared.command.Command.{Command}
use Rattle.mq_blocks.specs.declared.geometry.Geometry.{Geometry}
use Rattle.mq_core.proofs.StateEvents.{zone-queue}
use Rattle.mq_drive.specs.Emu.{emu_faults, emu_state}
use Rattle.mq_drive.specs.declared.emu.EmuPort.{EmuPort}
use Rattle.mq_drive.specs.declared.port.Ports.{Ports}
use Rattle.mq_drive.specs.declared.role.Role.{Role}
use Rattle.mq_drive.specs.declared.role.Role.TheVariants.{Queue, Root}
use Rattle.mq_image.specs.File.{DriveImage, queue_ports, root_port}
use Rattle.mq_image_ops.specs.Empty.{IsBlankDrive}
use Rattle.mq_image_ops.specs.Starts.{AreStarted, IsFreshPort}
use Rattle.mq_image_ops.specs.Views.{port_from, view_of}
use Rattle.mq_image_ops.proofs.Unwritten.{IsUnwritten, whole_none}
use Rattle.mq_image_ops.proofs.Views.{queue-in, start-queue, start-view, still-under}
use Rattle.mq_ledger.proofs.Written.{entries_read}
use Rattle.mq_ledger.specs.State.{IsStart, IsStartPort, State, from_at, no_port, port_at}
use Rattle.mq_ledger.specs.Written.{journal_entries}
use Rattle.mq_loose_order.proofs.FormSound.{loose-sound}
use Rattle.mq_loose_order.specs.Form.{loose_form}
use Rattle.mq_loose_queues.proofs.Ports.{mapped, port_is}
use Rattle.mq_loose_queues.specs.Opening.{IsOpened, MayOpen, home_map}
use Rattle.mq_loose_queues.specs.Queues.{QueuesState, StoredSide, at_queue, no_side}
use Rattle.mq_loose_recover.specs.Standing.{loose_entries}
use Rattle.mq_loose_recover.specs.declared.standing.LooseStanding.{LooseStanding}
use Rattle.mq_loose_text.specs.Text.{queue_count}
use Rattle.mq_loose_text.specs.declared.line.LooseLine.{LooseLine}
use Rattle.mq_queue_side.specs.Side.{IsKept, IsKeptBy, SideState}
use Rattle.mq_queue_side.specs.declared.answers.Why.{Why}
use Rattle.mq_queue_side.specs.declared.answers.Why.TheVariants.{Status, Off}
use Rattle.mq_recover.proofs.RecoveryStarts.{starts}
use Rattle.mq_recover.specs.Drives.{DriveFaults, DriveState, IsQuiescentDrive, drive_of, faults_on, view_over}
use Rattle.mq_recover.specs.Recovery.{IsReadPrefix, IsStartDrive, started}
use Rattle.mq_loose_run.specs.Lines.{AreKept, HasHappened, HasRun}
use Rattle.mq_loose_run.specs.Runs.{IsRunGeometry}
use Rattle.mq_loose_run.proofs.Counts.{queue_is}

-- ---- an image on which nothing was written

top_none : (g : Geometry) (i : Shown) → IsUnwritten g i → (n : ℕ) → ShowsNumber g i (λ q. []) n → n ≤ 0
top_none g i un n shows = elim shows.where_from [
  | inl at ↦ (let e = un.base in omega (arith, at, e))
  | inr other ↦ elim other [
    | inl in_chain ↦ absurd in_chain.3
    | inr rung ↦ absurd (let e = un.doorbell rung.0 rung.3 in let low = rung.5 in omega (arith, e, low))
  ]
]

read_none : (g : Geometry) (i : Shown) → i.form ≡ journal_form → IsUnwritten g i → IsReadPrefix g i [] 0
read_none g i form un = record {
  form_is = form;
  chains = λ q. [];
  whole = whole_none g i un;
  prefix = record { row = tt; whole = λ d has. absurd has; greatest = λ q d low has. absurd has };
  top_is = record { whole = whole_none g i un; shown = record { where_from = inl (sym un.base) }; greatest = top_none g i un };
}

-- ---- a start of the journal is one of the loose order

port_start : (g : Geometry) (d : DriveState) (start : List (Option (List ℕ))) (z : Option ℕ) (from : ℕ) (p : PortState) → IsStartPort journal_entries (started g d start) z from p → IsStartPort loose_entries (started g d start) z from p
port_start g d start z from p s = record {
  port = s.port;
  doorbell = s.doorbell;
  head = s.head;
  stored_head = s.stored_head;
  flushed_end = s.flushed_end;
  pending = s.pending;
  posted = s.posted;
  failed = s.failed;
  staged = s.staged;
  low = s.low;
  newest = s.newest;
  homes = λ x v content inside zone due mapped low. let k = s.homes x v content inside zone due mapped low in record { certain = k.certain; is = k.is };
}

loose_start : (g : Geometry) (d : DriveState) (start : List (Option (List ℕ))) → IsStart journal_entries (started g d start) → IsStart loose_entries (started g d start)
loose_start g d start s = record {
  entries = entries_read (loose_form (λ n. []));
  form = loose-sound (λ n. []);
  history = s.history;
  low = s.low;
  base = s.base;
  stored_base = s.stored_base;
  start = s.start;
  ports = s.ports;
  marked = s.marked;
  marks = s.marks;
  writing = s.writing;
  acknowledged = s.acknowledged;
  each = λ q own. port_start g d start (Some q) _ _ (s.each q own);
  root = port_start g d start None 0 d.root s.root;
}

-- ---- the map of a drive of zeros

zeros_in : (n x : ℕ) (bytes : List ℕ) → get_or (home_map (replicate n None)) x None ≡ Some bytes → zeros ≡ bytes
zeros_in zero x bytes e = absurd (cc)
zeros_in (suc n) zero bytes e = same_Some zeros bytes e
zeros_in (suc n) (suc x) bytes e = zeros_in n x bytes e

long_map : (blocks : List (Option (List ℕ))) (n : ℕ) → blocks ≡ replicate n None → length (home_map blocks) ≡ n
long_map blocks n is = length-map blocks (λ b. Some (content b)) ∙ ap length is ∙ length-replicate n None

-- ---- what a side keeps

none_by : (from : ℕ) (failed : List Command) (doorbell n : ℕ) (w : Why) → IsKeptBy from [] failed doorbell n w → ⊥
none_by from failed doorbell n Off k = k.1
none_by from failed doorbell n (Status s) k = k.3.at

none_kept : (from : ℕ) (failed pending : List Command) (doorbell : ℕ) (k : Option (ℕ × Why)) → IsKept from [] failed pending doorbell k → k ≡ None
none_kept from failed pending doorbell None is = refl
none_kept from failed pending doorbell (Some w) is = absurd (none_by from failed doorbell w.0 w.1 is)

no_faults : (ps : List EmuPort) (q : ℕ) → All IsFreshPort ps → get_or (map emu_faults ps) q [] ≡ []
no_faults [] q fresh = refl
no_faults (p ∷ ps) zero fresh = (fresh 0 p (omega arith)).faults
no_faults (p ∷ ps) (suc q) fresh = no_faults ps q (λ k d low. fresh (suc k) d (omega (arith, low)))

-- ---- the drive that starts

module _ (g : Geometry) (is : IsRunGeometry g) (f : FuseName) (x : DriveImage) (blank : IsBlankDrive g x) (ports : Ports EmuPort) (begun : AreStarted f None x ports) where
  abbrev d : DriveState
  d = drive_of emu_state ports

  same : x.geometry ≡ g
  same = blank.geometry_is

  view_is : view_over g d ≡ view_of x
  view_is = ap (λ (h : Geometry). view_over h d) (sym same) ∙ ap (view_over x.geometry) begun.states ∙ start-view f None x

  own : (q : ℕ) → q < g.queues → image_at (queue_ports x) q ≡ get_or x.ports q no_image
  own q low = queue-in x q (subst (λ (h : Geometry). q < h.queues) (sym same) low)

  unwritten : IsUnwritten g (view_of x)
  unwritten = record {
    base = ap (λ (h : Geometry). (get_or x.ports (queues_of h) no_image).base) same ∙ (blank.unused (queues_of g) (omega arith)).base;
    head = λ q low. ap (λ (i : PortImage). i.head) (own q low) ∙ (blank.unused q (omega (arith, low))).head;
    doorbell = λ q low. ap (λ (i : PortImage). i.doorbell) (own q low) ∙ (blank.unused q (omega (arith, low))).doorbell;
  }

  still : IsQuiescentDrive g d
  still = still-under f None g x d blank.drive (sym same) begun.states

  queue_from : (q : ℕ) → q < g.queues → port_at d.queues q ≡ port_from x.geometry f None (Queue q) (image_at (queue_ports x) q)
  queue_from q low = ap (λ (s : DriveState). port_at s.queues q) begun.states ∙ start-queue f None x q blank.drive (subst (λ (h : Geometry). q < h.queues) (sym same) low)

  root_from : d.root ≡ port_from x.geometry f None Root (root_port x)
  root_from = ap (λ (s : DriveState). s.root) begun.states

  bell : (q : ℕ) → q < g.queues → (port_at d.queues q).doorbell ≡ 0
  bell q low = ap (λ (p : PortState). p.doorbell) (queue_from q low) ∙ unwritten.doorbell q low

  head : (q : ℕ) → q < g.queues → (port_at d.queues q).head ≡ 0
  head q low = ap (λ (p : PortState). p.head) (queue_from q low) ∙ unwritten.head q low

  root_base : d.root.base ≡ 0
  root_base = ap (λ (p : PortState). p.base) root_from ∙ unwritten.base

  start_drive : IsStartDrive g d
  start_drive = starts g d 0 still (λ q low. head q low ∙ sym (bell q low)) (subst (λ (i : Shown). IsReadPrefix g i [] 0) (sym view_is) (read_none g (view_of x) refl unwritten)) root_base

  -- each home block is of zeros
  home_none : (b : ℕ) (z : Option ℕ) → b < homes_of x.geometry → zone_of x.geometry b ≡ z → home_block x.geometry (queue_ports x) (root_port x) b z ≡ zeros
  home_none b None low zone = ap content (ap (λ (h : Geometry). get_or (get_or x.ports (queues_of h) no_image).blocks b None) same ∙ blank.absent (queues_of g) b (omega arith))
  home_none b (Some q) low zone =
      let low_q : q < g.queues = subst (λ (h : Geometry). q < h.queues) same (zone-queue x.geometry q b low zone) in
      let at : ℕ = x.geometry.area + (b - (x.geometry.meta + q * x.geometry.zone)) in
      ap content (ap (λ (i : PortImage). get_or i.blocks at None) (own q low_q) ∙ blank.absent q at (omega (arith, low_q)))

  home_zeros : (b : ℕ) → b < homes_of g → (view_over g d).home b ≡ zeros
  home_zeros b low = ap (λ (i : Shown). i.home b) view_is ∙ home_none b (zone_of x.geometry b) (subst (λ (h : Geometry). b < homes_of h) (sym same) low) refl

  module _ (standing : LooseStanding) (blocks : standing.blocks.items ≡ replicate (homes_of g) None) (base : standing.base ≡ 0) where
    abbrev map_of : List (Option (List ℕ))
    map_of = home_map standing.blocks.items

    pub may_open : MayOpen g d standing
    may_open = record {
      starts = loose_start g d map_of (start_drive map_of (long_map standing.blocks.items (homes_of g) blocks) (λ b bytes low e. home_zeros b low ∙ zeros_in (homes_of g) b bytes (ap (λ (l : List (Option (List ℕ))). get_or (home_map l) b None) (sym blocks) ∙ e)));
      base_is = base ∙ sym root_base;
      base = omega (arith, base);
      rung = λ q low. (let e = bell q low in omega (arith, e));
    }

    module _ (v : QueuesState) (opened : IsOpened g d (faults_on emu_faults ports) map_of v) (lines : List LooseLine) where
      abbrev start : State
      start = started g d map_of

      queue_low : (q : ℕ) → q < queue_count → q < g.queues
      queue_low q low = (let four = is.queues in omega (arith, low, four, queue_is))

      starts_zero : (q : ℕ) → from_at start.starts q ≡ 0
      starts_zero q = mapped (λ (p : PortState). p.doorbell) d.queues q no_port ∙ by (cases_lt q g.queues)
        where
          past : (ps : List PortState) (q : ℕ) → length ps ≤ q → (port_at ps q).doorbell ≡ 0
          past [] q high = refl
          past (p ∷ ps) zero high = absurd (omega (arith, high))
          past (p ∷ ps) (suc q) high = past ps q (omega (arith, high))

          by : (q < g.queues) ⊎ (g.queues ≤ q) → (port_at d.queues q).doorbell ≡ 0
          by (inl low) = bell q low
          by (inr high) = past d.queues q (let count = still.count in omega (arith, high, count))

      side_port : (q : ℕ) → (at_queue v q).side.port ≡ port_at d.queues q
      side_port q = sym (port_is v q) ∙ ap (λ (e : DriveState). port_at e.queues q) opened.drive

      side_from : (q : ℕ) → q < queue_count → (at_queue v q).side.port ≡ port_from x.geometry f None (Queue q) (image_at (queue_ports x) q)
      side_from q low = side_port q ∙ queue_from q (queue_low q low)

      side_faults : (q : ℕ) → (at_queue v q).side.faults ≡ []
      side_faults q =
          sym (mapped (λ (s : StoredSide). s.side.faults) v.sides q (no_side v.geometry))
          ∙ ap (λ (e : DriveFaults). get_or e.queues q []) opened.faults
          ∙ no_faults ports.queues.items q begun.queues

      side_kept : (q : ℕ) → q < queue_count → (at_queue v q).side.kept ≡ None
      side_kept q low = by (at_queue v q).side (opened.journal.sides q (queue_low q low)).kept
        where
          by : (s : SideState) → IsKept (from_at start.starts q) [] s.port.failed s.port.pending s.port.doorbell s.kept → s.kept ≡ None
          by s k = none_kept (from_at start.starts q) s.port.failed s.port.pending s.port.doorbell s.kept k

      fresh : (role : Role) (i : PortImage) → HasHappened f 0 (port_from x.geometry f None role i)
      fresh role i = record { fuse_is = refl; fail = refl; begins = refl; events_are = refl }

      pub none_run : HasRun f start lines 0 v
      none_run = record {
        drawn = record {
          start_is = record { geometry_is = is; base = root_base; starts = starts_zero };
          journal = opened.journal;
          done = λ t ts at. absurd at;
          root = subst (HasHappened f 0) (sym (ap (λ (e : DriveState). e.root) opened.drive ∙ root_from)) (fresh Root (root_port x));
        };
        sides = λ q low.
            let from = side_from q low in
            let bell_is = ap (λ (p : PortState). p.doorbell) (side_port q) ∙ bell q (queue_low q low) in
            let head_is = ap (λ (p : PortState). p.head) (side_port q) ∙ head q (queue_low q low) in
            record {
              happened = subst (HasHappened f 0) (sym from) (fresh (Queue q) (image_at (queue_ports x) q));
              kept = side_kept q low;
              faults = side_faults q;
              stored = ap (λ (p : PortState). p.stored_head) from ∙ sym (ap (λ (p : PortState). p.head) from);
              posted = ap (λ (p : PortState). length p.posted) from;
              waits = omega (arith, bell_is, head_is);
              rung = bell_is;
            };
      }

-- nothing is in the map, and nothing waits
pub none_marked : (lines : List LooseLine) (marks waits : List Bool) → marks ≡ replicate 256 false → waits ≡ replicate 4 false → AreKept lines 0 marks waits
none_marked lines marks waits all none = record {
  whole = ap length all ∙ length-replicate 256 false;
  marks_are = λ b low. ap (λ (l : List Bool). get_or l b false) all ∙ get_or-replicate 256 b false false low;
  count = ap length none ∙ length-replicate 4 false ∙ sym queue_is;
  waits_are = λ q low. ap (λ (l : List Bool). get_or l q false) none ∙ get_or-replicate 4 q false false (omega (arith, low, queue_is));
}
