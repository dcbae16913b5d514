-- What the events of a recovery make of a drive, from the descriptors that were chosen.
use Rattle.std.proofs.Common.{◌≡◌, ◌≢◌, ◌<◌, ◌≤◌, inl, inr, ⊎_elim, ℕ, zero, suc, ◌+◌, Bool, true, false, List, [], ◌∷◌, ◌++◌, length, take, map, Option, Some, None, IsNone, set, refl, sym, ◌∙◌, ap, subst, arith, append_assoc}
use Rattle.std.proofs.lemmas.Bool.{ne_eqb}
use Rattle.std.proofs.lemmas.List.{take_all, length-map, get_or-map}
use Rattle.std.specs.Prelude.{nat_eq, if◌then◌else◌, Result, Ok, Err}
use Rattle.mq_blocks.specs.Blocks.{block_at}
use Rattle.mq_blocks.specs.Descriptor.{Descriptor, AreRising}
use Rattle.mq_blocks.specs.Drive.{FuseName, PortState, PortImage, IsImage, IsQuiescent, image_of, after_begin, after_end, after_flush, after_store_base, after_store_head}
use Rattle.mq_blocks.specs.Geometry.{homes_of, home_lba, zone_of}
use Rattle.mq_blocks.specs.Journal.{or_else, stands}
use Rattle.mq_blocks.specs.Machine.{Writes}
use Rattle.mq_blocks.specs.declared.geometry.Geometry.{Geometry}
use Rattle.mq_ledger.specs.Sides.{home_index}
use Rattle.mq_ledger.specs.State.{no_port, port_at}
use Rattle.mq_drive.specs.Start.{IsPortOf}
use Rattle.mq_drive.specs.declared.role.Role.TheVariants.{Queue, Root}
use Rattle.mq_recover.specs.Drives.{DriveState, ArePorts, IsQuiescentDrive, AreImages, AreBoundsKept, drive, view_over}
use Rattle.mq_recover.specs.RecoverCauses.{OnDrive}
use Rattle.mq_recover.specs.RecoverHomes.{AreBelow, CanMove, AreCutMoves, after_raise, after_move, IsCutRaise}
use Rattle.mq_recover.specs.Copies.{copy_of, content_of}
use Rattle.mq_recover.specs.Events.{Event, BeginHome, EndHome, StoreBase, FlushBase, StoreHead, FlushHead, at_home, after_event, after_events, home_events, base_events, heads_events, recovery_events, AreHomeWrites, StopsAt}
use Rattle.mq_recover.specs.declared.refusal.RecoverRefusal.{RecoverRefusal}
use Rattle.mq_recover.specs.declared.refusal.RecoverRefusal.TheVariants.{Image, Off, Failed}
use Rattle.mq_recover.proofs.RecoverCopies.{stands-copy}
use Rattle.mq_recover.proofs.StepsEvents.{after-then, events-ports, stops-more, off-after}
use Rattle.mq_recover.proofs.RecoverHomes.{IsBetween, between-start, between-end, between-ports, later-quiet}
use Rattle.mq_recover.proofs.StepsWords.{raised, IsMoved, moved, moved-events, cut-moves, heads-same}
use Rattle.mq_recover.proofs.DrivesZones.{IsZone, port_in, home_in, zone-is, still-in, still-ports, at-count, image-at, view-home}
use Rattle.mq_recover.specs.Recovering.{AreHeadsLow, HasStopped, HasWritten}

rising-below : (low homes : ℕ) (writes : Writes) → AreRising low homes (map (λ w. w.0) writes) → AreBelow homes writes
rising-below low homes [] rising = tt
rising-below low homes (w ∷ ws) rising = (rising.1, rising-below (w.0 + 1) homes ws rising.2)

pub writes-below : (g : Geometry) (d : DriveState) (ds : List Descriptor) (writes : Writes) → AreHomeWrites g d ds writes → AreBelow (homes_of g) writes
writes-below g d ds writes are = rising-below 0 (homes_of g) writes are.rising

-- What a recovery is to do from these descriptors: which home blocks it writes, and that no word falls.
pub record IsPlanned (g : Geometry) (s : DriveState) (ds : List Descriptor) (top : ℕ) (writes : Writes) : Type 0 where
  pub writes_are : AreHomeWrites g s ds writes
  pub low : s.root.base ≤ top
  pub heads : AreHeadsLow g s

-- the ports after all home writes
pub record AreAllHome (g : Geometry) (s : DriveState) (all : Writes) (n : DriveState) : Type 0 where
  pub between : IsBetween g s n all []
  pub events : n ≡ after_events g s (home_events all)
  pub ports : ArePorts g n
  pub quiet : (z : Option ℕ) → IsZone g z → IsQuiescent (port_in n z)
  pub base_is : n.root.base ≡ s.root.base
  pub heads : heads_events 0 n.queues ≡ heads_events 0 s.queues
  pub bells : (q : ℕ) → q < g.queues → (port_at n.queues q).doorbell ≡ (port_at s.queues q).doorbell
  pub order : (q : ℕ) → q < g.queues → (port_at n.queues q).head ≤ (port_at n.queues q).doorbell

heads-home : (g : Geometry) (s n : DriveState) (all : Writes) → IsQuiescentDrive g s → IsBetween g s n all [] → heads_events 0 n.queues ≡ heads_events 0 s.queues
heads-home g s n all still between =
    let count = between.count in
    let full = still.count in
    heads-same 0 n.queues s.queues count
    (λ q low. ap (λ (t : PortState). t.head) (between.each (Some q) (omega arith)).same)
    (λ q low. ap (λ (t : PortState). t.doorbell) (between.each (Some q) (omega arith)).same)

pub all-home : (g : Geometry) (s n : DriveState) (ds : List Descriptor) (top : ℕ) (all : Writes) → IsQuiescentDrive g s → IsPlanned g s ds top all → n ≡ after_events g s (home_events all) → AreAllHome g s all n
all-home g s n ds top all still planned is =
    let ports = still-ports g s still in
    let start = between-start g s all (writes-below g s ds all planned.writes_are) in
    let end : IsBetween g s (after_events g s (home_events all)) all [] = between-end g s s all all ports start in
    let between : IsBetween g s n all [] = subst (λ (e : DriveState). IsBetween g s e all []) (sym is) end in
    record {
      between = between;
      events = is;
      ports = between-ports g s n all [] ports between;
      quiet = λ z zone. later-quiet (port_in s z) (port_in n z) (between.each z zone) (still-in g s still z zone).quiet;
      base_is = ap (λ (t : PortState). t.base) (between.each None tt).same;
      heads = heads-home g s n all still between;
      bells = λ q own. ap (λ (t : PortState). t.doorbell) (between.each (Some q) own).same;
      order = λ q own.
          let same = (between.each (Some q) own).same in
          let head : (port_at n.queues q).head ≡ (port_at s.queues q).head = ap (λ (t : PortState). t.head) same in
          let bell : (port_at n.queues q).doorbell ≡ (port_at s.queues q).doorbell = ap (λ (t : PortState). t.doorbell) same in
          let order = planned.heads q own in
          omega arith;
    }

pub root-alone : (g : Geometry) (t : PortState) → IsPortOf g Root t → IsNone t.queue
root-alone g t port = subst (λ (o : Option ℕ). IsNone o) (sym port.queue) refl

-- the base never falls
pub base-low : (g : Geometry) (s n : DriveState) (ds : List Descriptor) (top : ℕ) (all : Writes) → IsPlanned g s ds top all → AreAllHome g s all n → n.root.base ≤ top
base-low g s n ds top all planned home =
    let base_is = home.base_is in
    let low = planned.low in
    omega (arith, base_is, low)

pub can-move : (g : Geometry) (s n : DriveState) (all : Writes) (q : ℕ) → AreAllHome g s all n → q < length n.queues → CanMove (port_at n.queues q)
can-move g s n all q home low =
    let count = home.ports.count in
    let own : q < g.queues = omega arith in
    record { quiet = home.quiet (Some q) own; order = home.order q own }

-- ---- the words' events

raise-by : (g : Geometry) (n : DriveState) (top : ℕ) (t : Bool) → drive n.queues (if t then n.root else after_flush (after_store_base n.root top)) ≡ after_events g n (if t then [] else StoreBase top ∷ FlushBase ∷ [])
raise-by g n top true = refl
raise-by g n top false = refl

-- the ports after the base was raised
raise-events : (g : Geometry) (s n : DriveState) (root : PortState) (top : ℕ) (all : Writes) → AreAllHome g s all n → root ≡ after_raise n.root top
    → drive n.queues root ≡ after_events g s (home_events all ++ base_events s.root.base top)
raise-events g s n root top all home is =
    ap (λ (t : PortState). drive n.queues t) is
    ∙ raise-by g n top (nat_eq n.root.base top)
    ∙ ap (λ (b : ℕ). after_events g n (base_events b top)) home.base_is
    ∙ ap (λ (e : DriveState). after_events g e (base_events s.root.base top)) home.events
    ∙ sym (after-then g s (home_events all) (base_events s.root.base top))

-- and after the heads were moved too
move-events : (g : Geometry) (s n : DriveState) (news : List PortState) (root : PortState) (top : ℕ) (all : Writes) → AreAllHome g s all n → root ≡ after_raise n.root top → news ≡ map after_move n.queues
    → drive news root ≡ after_events g s (recovery_events s all top)
move-events g s n news root top all home raised_is moved_is =
    let first : List Event = home_events all in
    let bases : List Event = base_events s.root.base top in
    let last : List Event = heads_events 0 s.queues in
    ap (λ (l : List PortState). drive l root) moved_is
    ∙ sym (moved-events g n.queues root)
    ∙ ap (after_events g (drive n.queues root)) home.heads
    ∙ ap (λ (e : DriveState). after_events g e last) (raise-events g s n root top all home raised_is)
    ∙ sym (after-then g s (first ++ bases) last)
    ∙ ap (after_events g s) (append_assoc first bases last)

-- ---- cut short

-- some of the events happened
pub stops-some : (g : Geometry) (e : RecoverRefusal) (s n : DriveState) (xs : List Event) → StopsAt g e s xs n → (k : ℕ) × (n ≡ after_events g s (take k xs))
stops-some g (Image fault) s n xs stops = absurd stops
stops-some g Off s n xs stops = (stops.0, stops.2)
stops-some g (Failed block status) s n xs stops = (stops.0 + 1, stops.3)

stopped : (g : Geometry) (e : RecoverRefusal) (s n : DriveState) (ds : List Descriptor) (top : ℕ) (all : Writes) → IsQuiescentDrive g s → IsPlanned g s ds top all → StopsAt g e s (recovery_events s all top) n → HasStopped g e s ds top n
stopped g e s n ds top all still planned stops =
    let some = stops-some g e s n (recovery_events s all top) stops in
    record {
      writes = all;
      home_writes = planned.writes_are;
      events = stops;
      ports = subst (ArePorts g) (sym some.1) (events-ports g s (take some.0 (recovery_events s all top)) (still-ports g s still));
    }

-- among the home writes
pub cut-homes : (g : Geometry) (e : RecoverRefusal) (s n : DriveState) (ds : List Descriptor) (top : ℕ) (all : Writes) → IsQuiescentDrive g s → IsPlanned g s ds top all → StopsAt g e s (home_events all) n → HasStopped g e s ds top n
cut-homes g e s n ds top all still planned stops =
    stopped g e s n ds top all still planned
    (stops-more g e s n (home_events all) (base_events s.root.base top ++ heads_events 0 s.queues) stops)

-- before the base is certain
pub cut-raise : (g : Geometry) (s n : DriveState) (root : PortState) (ds : List Descriptor) (top : ℕ) (all : Writes) → IsQuiescentDrive g s → IsPlanned g s ds top all → AreAllHome g s all n → IsCutRaise n.root top root
    → HasStopped g Off s ds top (drive n.queues root)
cut-raise g s n root ds top all still planned home cut =
    let first : List Event = home_events all in
    let last : List Event = heads_events 0 s.queues in
    let P : Bool → Type 0 = λ t. StopsAt g Off s (first ++ ((if t then [] else StoreBase top ∷ FlushBase ∷ []) ++ last)) (drive n.queues root) in
    let changes : s.root.base ≢ top = λ same. cut.0 (home.base_is ∙ same) in
    stopped g Off s (drive n.queues root) ds top all still planned
    (subst P (sym (ne_eqb s.root.base top changes))
    (⊎_elim
    (λ before. off-after g s n (drive n.queues root) first (StoreBase top ∷ FlushBase ∷ last) 0 home.events (omega arith) (ap (λ (t : PortState). drive n.queues t) before))
    (λ stored. off-after g s n (drive n.queues root) first (StoreBase top ∷ FlushBase ∷ last) 1 home.events (omega arith) (ap (λ (t : PortState). drive n.queues t) stored))
    cut.1))

-- before all heads are certain
pub cut-heads : (g : Geometry) (s n : DriveState) (news : List PortState) (root : PortState) (ds : List Descriptor) (top : ℕ) (all : Writes) → IsQuiescentDrive g s → IsPlanned g s ds top all → AreAllHome g s all n → root ≡ after_raise n.root top → AreCutMoves n.queues news
    → HasStopped g Off s ds top (drive news root)
cut-heads g s n news root ds top all still planned home raised_is cut =
    let first : List Event = home_events all in
    let bases : List Event = base_events s.root.base top in
    let last : List Event = heads_events 0 s.queues in
    let stops : StopsAt g Off (drive n.queues root) last (drive news root) = subst (λ (l : List Event). StopsAt g Off (drive n.queues root) l (drive news root)) home.heads (cut-moves g n.queues news root cut) in
    stopped g Off s (drive news root) ds top all still planned
    (subst (λ (l : List Event). StopsAt g Off s l (drive news root)) (append_assoc first bases last)
    (off-after g s (drive n.queues root) (drive news root) (first ++ bases) last stops.0 (raise-events g s n root top all home raised_is) stops.1 stops.2))

-- ---- done

-- the ports at the end
record AreEnded (g : Geometry) (s n m : DriveState) (top : ℕ) : Type 0 where
  still : IsQuiescentDrive g m
  base : m.root.base ≡ top
  heads : (q : ℕ) → q < g.queues → (port_at m.queues q).head ≡ (port_at n.queues q).doorbell
  bells : (q : ℕ) → q < g.queues → (port_at m.queues q).doorbell ≡ (port_at n.queues q).doorbell
  blocks : (z : Option ℕ) → IsZone g z → (port_in m z).blocks ≡ (port_in n z).blocks
  begun : (z : Option ℕ) → IsZone g z → (port_in m z).begun ≡ (port_in n z).begun

ended : (g : Geometry) (s n : DriveState) (news : List PortState) (root : PortState) (top : ℕ) (all : Writes) → IsQuiescentDrive g s → AreAllHome g s all n → root ≡ after_raise n.root top → news ≡ map after_move n.queues
    → AreEnded g s n (drive news root) top
ended g s n news root top all still home raised_is moved_is =
    let up = raised g n.root top root home.ports.root (home.quiet None tt) raised_is in
    let on : (q : ℕ) → q < g.queues → IsMoved g (Queue q) (port_at n.queues q) (port_at news q) = λ q own.
    let count = home.ports.count in
    let here : port_at news q ≡ after_move (port_at n.queues q) = ap (λ (l : List PortState). port_at l q) moved_is ∙ get_or-map after_move n.queues q no_port no_port (omega arith) in
    subst (IsMoved g (Queue q) (port_at n.queues q)) (sym here) (moved g (Queue q) (port_at n.queues q) (home.ports.each q own) (home.quiet (Some q) own)) in
    let root_same = (home.between.each None tt).same in
    let count : length news ≡ g.queues = ap length moved_is ∙ length-map n.queues after_move ∙ home.ports.count in
    record {
      still = record {
        count = count;
        each = λ q own. record { port = (on q own).port; quiet = (on q own).quiet };
        root = record { port = up.port; quiet = up.quiet };
        ringless = (
          up.doorbell_is ∙ ap (λ (t : PortState). t.doorbell) root_same ∙ still.ringless.0,
          up.head_is ∙ ap (λ (t : PortState). t.head) root_same ∙ still.ringless.1,
        );
      };
      base = up.base_is;
      heads = λ q own. (on q own).head_is;
      bells = λ q own. (on q own).doorbell_is;
      blocks = by_zone (λ z. (port_in (drive news root) z).blocks ≡ (port_in n z).blocks) (λ q own. (on q own).blocks_are) up.blocks_are;
      begun = by_zone (λ z. (port_in (drive news root) z).begun ≡ (port_in n z).begun) (λ q own. (on q own).begun_is) up.begun_is;
    }
  where
    by_zone : (P : Option ℕ → Type 0) → ((q : ℕ) → q < g.queues → P (Some q)) → P None → (z : Option ℕ) → IsZone g z → P z
    by_zone P queues root None zone = root
    by_zone P queues root (Some q) zone = queues q zone

pub done : (g : Geometry) (s n : DriveState) (news : List PortState) (root : PortState) (ds : List Descriptor) (top : ℕ) (all : Writes) → IsQuiescentDrive g s → IsPlanned g s ds top all → AreAllHome g s all n → root ≡ after_raise n.root top → news ≡ map after_move n.queues
    → HasWritten g s ds top (drive news root)
done g s n news root ds top all still planned home raised_is moved_is =
    let m : DriveState = drive news root in
    let end = ended g s n news root top all still home raised_is moved_is in
    let v = view_over g s in
    let at : (q : ℕ) → q < g.queues → (port_at m.queues q).head ≡ (port_at m.queues q).doorbell = λ q own. end.heads q own ∙ sym (end.bells q own) in
    record {
      writes = all;
      home_writes = planned.writes_are;
      events = move-events g s n news root top all home raised_is moved_is;
      recovered = record {
        still = end.still;
        homes = λ b below.
            view-home g m b
            ∙ ap (λ (l : List (Option (List ℕ))). block_at l (home_index g b)) (end.blocks (zone_of g b) (zone-is g b below))
            ∙ home.between.homes b below
            ∙ ap (λ (o : Option (List ℕ)). or_else o (home_in g s b)) (planned.writes_are.copies b)
            ∙ ap (or_else (content_of v.area g.area (copy_of ds b))) (sym (view-home g s b))
            ∙ sym (stands-copy g v ds b);
        base = end.base;
        heads = λ q own. record { head = at q own; doorbell = end.bells q own ∙ home.bells q own };
      };
      begun = record {
        queues = λ q own. end.begun (Some q) own ∙ (home.between.each (Some q) own).begun;
        root = end.begun None tt ∙ (home.between.each None tt).begun;
      };
    }

-- ---- the answer

abbrev refusal_in : {A : Type 0} → RecoverRefusal → Result A RecoverRefusal → RecoverRefusal
refusal_in d (Ok x) = d
refusal_in d (Err e) = e

pub on-drive : {A : Type 0} (result : Result A RecoverRefusal) (e : RecoverRefusal) (P : RecoverRefusal → Type 0) → result ≡ Err e → P e → OnDrive result P
on-drive (Ok x) e P is holds = tt
on-drive (Err (Image fault)) e P is holds = tt
on-drive (Err Off) e P is holds = subst P (sym (ap (refusal_in Off) is)) holds
on-drive (Err (Failed block status)) e P is holds = subst P (sym (ap (refusal_in Off) is)) holds

-- ---- what events leave of a drive

-- what no event of a recovery changes of a port
abbrev fixed : PortState → ℕ × FuseName × Option ℕ
fixed t = (t.doorbell, t.fuse, t.fail)

-- a change of a port that leaves it leaves it of all
set-fixed : (ports : List PortState) (q r : ℕ) (f : PortState → PortState) → ((t : PortState) → fixed (f t) ≡ fixed t) → fixed (port_at (set ports q (f (port_at ports q))) r) ≡ fixed (port_at ports r)
set-fixed [] q r f same = refl
set-fixed (p ∷ ps) zero zero f same = same p
set-fixed (p ∷ ps) zero (suc r) f same = refl
set-fixed (p ∷ ps) (suc q) zero f same = refl
set-fixed (p ∷ ps) (suc q) (suc r) f same = set-fixed ps q r f same

at-fixed : (d : DriveState) (z y : Option ℕ) (f : PortState → PortState) → ((t : PortState) → fixed (f t) ≡ fixed t) → fixed (port_in (at_home z f d) y) ≡ fixed (port_in d y)
at-fixed d None None f same = same d.root
at-fixed d None (Some r) f same = refl
at-fixed d (Some q) None f same = refl
at-fixed d (Some q) (Some r) f same = set-fixed d.queues q r f same

event-fixed : (g : Geometry) (d : DriveState) (x : Event) (y : Option ℕ) → fixed (port_in (after_event g d x) y) ≡ fixed (port_in d y)
event-fixed g d (BeginHome b content) y = at-fixed d (zone_of g b) y (λ s. after_begin s (home_lba g b) content) (λ t. refl)
event-fixed g d (EndHome b content) y = at-fixed d (zone_of g b) y (λ s. after_end s (home_lba g b) content) (λ t. refl)
event-fixed g d (StoreBase base) y = at-fixed d None y (λ s. after_store_base s base) (λ t. refl)
event-fixed g d FlushBase y = at-fixed d None y after_flush (λ t. refl)
event-fixed g d (StoreHead q head) y = at-fixed d (Some q) y (λ s. after_store_head s head) (λ t. refl)
event-fixed g d (FlushHead q) y = at-fixed d (Some q) y after_flush (λ t. refl)

pub events-fixed : (g : Geometry) (d : DriveState) (xs : List Event) (y : Option ℕ) → fixed (port_in (after_events g d xs) y) ≡ fixed (port_in d y)
events-fixed g d [] y = refl
events-fixed g d (x ∷ xs) y = events-fixed g (after_event g d x) xs y ∙ event-fixed g d x y

event-count : (g : Geometry) (d : DriveState) (x : Event) → length (after_event g d x).queues ≡ length d.queues
event-count g d (BeginHome b content) = at-count d (zone_of g b) (λ s. after_begin s (home_lba g b) content)
event-count g d (EndHome b content) = at-count d (zone_of g b) (λ s. after_end s (home_lba g b) content)
event-count g d (StoreBase base) = refl
event-count g d FlushBase = refl
event-count g d (StoreHead q head) = at-count d (Some q) (λ s. after_store_head s head)
event-count g d (FlushHead q) = at-count d (Some q) after_flush

events-count : (g : Geometry) (d : DriveState) (xs : List Event) → length (after_events g d xs).queues ≡ length d.queues
events-count g d [] = refl
events-count g d (x ∷ xs) = events-count g (after_event g d x) xs ∙ event-count g d x

pub bounds-same : (g : Geometry) (d n : DriveState) → n ≡ d → AreBoundsKept g d n
bounds-same g d n is = subst (AreBoundsKept g d) (sym is) (record { queues = λ q own. record { fuse = refl; fail = refl }; root = record { fuse = refl; fail = refl } })

-- what events leave of a drive
pub record IsLeft (g : Geometry) (old new : DriveState) : Type 0 where
  pub count : length new.queues ≡ length old.queues
  pub bounds : AreBoundsKept g old new

left-by : (g : Geometry) (old new : DriveState) (xs : List Event) → new ≡ after_events g old xs → IsLeft g old new
left-by g old new xs is = subst (IsLeft g old) (sym is) (record {
  count = events-count g old xs;
  bounds = record {
    queues = λ q own. let same = events-fixed g old xs (Some q) in record { fuse = ap (λ p. p.1) same; fail = ap (λ p. p.2) same };
    root = let same = events-fixed g old xs None in record { fuse = ap (λ p. p.1) same; fail = ap (λ p. p.2) same };
  };
})

pub stopped-left : (g : Geometry) (e : RecoverRefusal) (old new : DriveState) (ds : List Descriptor) (top : ℕ) → HasStopped g e old ds top new → IsLeft g old new
stopped-left g e old new ds top cut =
    let events : List Event = recovery_events old cut.writes top in
    let some = stops-some g e old new events cut.events in
    left-by g old new (take some.0 events) some.1

pub written-left : (g : Geometry) (old new : DriveState) (ds : List Descriptor) (top : ℕ) → HasWritten g old ds top new → IsLeft g old new
written-left g old new ds top whole = left-by g old new (recovery_events old whole.writes top) whole.events
