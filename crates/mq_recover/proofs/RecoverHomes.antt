-- Writing copies home.
use Rattle.std.proofs.Common.{◌≡◌, ◌≢◌, ◌<◌, ◌≤◌, ⊎_elim, ℕ, zero, suc, List, [], ◌∷◌, ◌++◌, length, Bool, true, false, Option, Some, None, get_or, set, refl, sym, ◌∙◌, ap, subst, arith}
use Rattle.std.proofs.lemmas.Bool.{cases_eq, eq-eqb, ne_eqb}
use Rattle.std.proofs.lemmas.Grind.{get_or-set_at}
use Rattle.std.proofs.lemmas.List.{get_or-set_other}
use Rattle.std.proofs.Math.ListN.{length-set}
use Rattle.std.specs.Prelude.{nat_eq, if◌then◌else◌}
use Rattle.mq_blocks.specs.Blocks.{block_at, content}
use Rattle.mq_blocks.specs.Drive.{PortState, IsQuiescent, index_of, without_last, after_begin, after_end}
use Rattle.mq_blocks.specs.Geometry.{homes_of, home_lba, zone_of}
use Rattle.mq_blocks.specs.Journal.{or_else}
use Rattle.mq_blocks.specs.Machine.{Writes, or_kept}
use Rattle.mq_blocks.specs.declared.command.HomeWrite.{HomeWrite}
use Rattle.mq_blocks.specs.declared.geometry.Geometry.{Geometry}
use Rattle.mq_blocks.proofs.DriveBegun.{begun_new}
use Rattle.mq_blocks.proofs.Ports.{parts_of}
use Rattle.mq_ledger.specs.Sides.{home_index}
use Rattle.mq_ledger.specs.State.{port_at}
use Rattle.mq_drive.specs.Start.{IsPortOf, area_size_of}
use Rattle.mq_drive.specs.declared.role.Role.{Role}
use Rattle.mq_drive.proofs.StartRolePorts.{port_of-along}
use Rattle.mq_recover.specs.Drives.{DriveState, ArePorts}
use Rattle.mq_recover.specs.RecoverHomes.{written, AreBelow, after_home}
use Rattle.mq_recover.specs.Events.{BeginHome, EndHome, at_home, after_event, after_events, home_events}
use Rattle.mq_recover.proofs.DrivesZones.{IsZone, port_in, role_in, home_in, zone-cases, zone-is, ports-in, ports-of, at-count, at-here, at-apart, placed-at, place-apart}

-- ---- ports after home writes

-- Home writes changed the blocks alone, and left none uncertain. None that began since is under way.
pub record IsWrittenHome (s t : PortState) : Type 0 where
  pub same : t ≡ record s { blocks = t.blocks; certain = t.certain; begun = t.begun; begins = t.begins }
  pub blocks_len : length t.blocks ≡ length s.blocks
  pub certain_len : length t.certain ≡ length s.certain
  pub certain : (k : ℕ) → get_or s.certain k false ≡ true → get_or t.certain k false ≡ true
  pub begun : t.begun ≡ s.begun

pub later-refl : (s : PortState) → IsWrittenHome s s
later-refl s = record { same = refl; blocks_len = refl; certain_len = refl; certain = λ k h. h; begun = refl }

pub later-then : (s t u : PortState) → IsWrittenHome s t → IsWrittenHome t u → IsWrittenHome s u
later-then s t u first next =
    let p = first.same in
    record {
      same = next.same ∙ (λ i. record (p i) { blocks = u.blocks; certain = u.certain; begun = u.begun; begins = u.begins });
      blocks_len = next.blocks_len ∙ first.blocks_len;
      certain_len = next.certain_len ∙ first.certain_len;
      certain = λ k h. next.certain k (first.certain k h);
      begun = next.begun ∙ first.begun;
    }

pub later-port : (g : Geometry) (role : Role) (s t : PortState) → IsWrittenHome s t → IsPortOf g role s → IsPortOf g role t
later-port g role s t w p = subst (IsPortOf g role) (sym w.same) (port_of-along p (λ i. record (parts_of s) { blocks = w.blocks_len i; certain = w.certain_len i }) p.settled)

pub later-quiet : (s t : PortState) → IsWrittenHome s t → IsQuiescent s → IsQuiescent t
later-quiet s t w q = subst IsQuiescent (sym w.same) (record {
  flushed_end = q.flushed_end;
  pending = q.pending;
  posted = q.posted;
  failed = q.failed;
  head = q.head;
  base = q.base;
  certain = λ k within. w.certain k (q.certain k (subst (λ (n : ℕ). k < n) w.certain_len within));
})

certain-set : (certain : List Bool) (i k : ℕ) → get_or certain k false ≡ true → get_or (set (set certain i false) i true) k false ≡ true
certain-set [] i k h = h
certain-set (s ∷ ss) zero zero h = refl
certain-set (s ∷ ss) zero (suc k) h = h
certain-set (s ∷ ss) (suc i) zero h = h
certain-set (s ∷ ss) (suc i) (suc k) h = certain-set ss i k h

-- a home write that begins and ends is not under way
ends-last : (lba : ℕ) (bs : List HomeWrite) (w : HomeWrite) → w.lba ≡ lba → without_last lba (bs ++ w ∷ []) ≡ bs
ends-last lba [] w is = rw (eq-eqb w.lba lba is) refl
ends-last lba (b ∷ bs) w is =
    ap (λ (t : Bool). if t then b ∷ without_last lba (bs ++ w ∷ []) else (if nat_eq b.lba lba then bs ++ w ∷ [] else b ∷ bs ++ w ∷ [])) (begun_new lba bs w is)
    ∙ ap (λ (l : List HomeWrite). b ∷ l) (ends-last lba bs w is)

later-home : (s : PortState) (lba : ℕ) (block : List ℕ) → IsWrittenHome s (after_home s lba block)
later-home s lba block = record {
  same = refl;
  blocks_len = length-set s.blocks (index_of s lba) (Some block);
  certain_len = length-set (set s.certain (index_of s lba) false) (index_of s lba) true ∙ length-set s.certain (index_of s lba) false;
  certain = λ k h. certain-set s.certain (index_of s lba) k h;
  begun = ends-last lba s.begun (record { lba = lba; block = block }) refl;
}

-- ---- one home write

block-set : (blocks : List (Option (List ℕ))) (i k b x : ℕ) (v : List ℕ) → i < length blocks → (b ≡ x → i ≡ k) → (b ≢ x → i ≢ k)
    → block_at (set blocks i (Some v)) k ≡ (if nat_eq b x then v else block_at blocks k)
block-set blocks i k b x v within here apart = ⊎_elim
    (λ same. rw (eq-eqb b x same) (ap content (get_or-set_at blocks i k (Some v) None (sym (here same)) within)))
    (λ other. rw (ne_eqb b x other) (ap content (get_or-set_other blocks i k (Some v) None (λ e. apart other (sym e)))))
    (cases_eq b x)

block-other : (blocks : List (Option (List ℕ))) (i k : ℕ) (v : List ℕ) → i ≢ k → block_at (set blocks i (Some v)) k ≡ block_at blocks k
block-other blocks i k v other = ap content (get_or-set_other blocks i k (Some v) None (λ e. other (sym e)))

-- what a home write of a block makes of the ports
pub record IsHomed (g : Geometry) (e : DriveState) (b : ℕ) (v : List ℕ) (n : DriveState) : Type 0 where
  pub count : length n.queues ≡ length e.queues
  pub each : (z : Option ℕ) → IsZone g z → IsWrittenHome (port_in e z) (port_in n z)
  pub homes : (x : ℕ) → x < homes_of g → home_in g n x ≡ (if nat_eq b x then v else home_in g e x)
  pub area : (q k : ℕ) → q < g.queues → k < g.area → block_at (port_at n.queues q).blocks k ≡ block_at (port_at e.queues q).blocks k

-- one port has done it, and the others are as before
record IsOneHomed (g : Geometry) (e : DriveState) (b : ℕ) (v : List ℕ) (n : DriveState) : Type 0 where
  count : length n.queues ≡ length e.queues
  here : port_in n (zone_of g b) ≡ after_home (port_in e (zone_of g b)) (home_lba g b) v
  apart : (y : Option ℕ) → y ≢ zone_of g b → port_in n y ≡ port_in e y

one-homed : (g : Geometry) (e : DriveState) (b : ℕ) (v : List ℕ) → ArePorts g e → b < homes_of g → IsOneHomed g e b v (after_event g (after_event g e (BeginHome b v)) (EndHome b v))
one-homed g e b v ports inside =
    let z : Option ℕ = zone_of g b in
    let begin : PortState → PortState = λ s. after_begin s (home_lba g b) v in
    let end : PortState → PortState = λ s. after_end s (home_lba g b) v in
    let zone : IsZone g z = zone-is g b inside in
    let first : length (at_home z begin e).queues ≡ length e.queues = at-count e z begin in
    record {
      count = at-count (at_home z begin e) z end ∙ first;
      here = at-here g (at_home z begin e) z end (first ∙ ports.count) zone ∙ ap end (at-here g e z begin ports.count zone);
      apart = λ y other. at-apart (at_home z begin e) y z end other ∙ at-apart e y z begin other;
    }

homed-homes : (g : Geometry) (e n : DriveState) (b : ℕ) (v : List ℕ) (x : ℕ) → ArePorts g e → b < homes_of g → IsOneHomed g e b v n → home_in g n x ≡ (if nat_eq b x then v else home_in g e x)
homed-homes g e n b v x ports inside one =
    let p : PortState = port_in e (zone_of g b) in
    let k : ℕ = home_index g x in
    let placed = placed-at g b p (ports-in g e ports (zone_of g b) (zone-is g b inside)) in
    ⊎_elim
    (λ same.
    ap (λ (z : Option ℕ). block_at (port_in n z).blocks k) same
    ∙ ap (λ (s : PortState). block_at s.blocks k) one.here
    ∙ ap (λ (i : ℕ). block_at (set p.blocks i (Some v)) k) placed.index_is
    ∙ block-set p.blocks (home_index g b) k b x v placed.high (λ is. ap (home_index g) is) (λ other is. other (place-apart g b x (sym same) is))
    ∙ ap (λ (z : Option ℕ). if nat_eq b x then v else block_at (port_in e z).blocks k) (sym same))
    (λ other.
    let apart : b ≢ x = λ is. other (ap (zone_of g) (sym is)) in
    rw (ne_eqb b x apart) (ap (λ (s : PortState). block_at s.blocks k) (one.apart (zone_of g x) other)))
    (zone-cases (zone_of g x) (zone_of g b))

homed-area : (g : Geometry) (e n : DriveState) (b : ℕ) (v : List ℕ) (q k : ℕ) → ArePorts g e → b < homes_of g → IsOneHomed g e b v n → q < g.queues → k < g.area
    → block_at (port_at n.queues q).blocks k ≡ block_at (port_at e.queues q).blocks k
homed-area g e n b v q k ports inside one low within = ⊎_elim
    (λ same.
    let p : PortState = port_in e (zone_of g b) in
    let placed = placed-at g b p (ports-in g e ports (zone_of g b) (zone-is g b inside)) in
    let past : g.area ≤ home_index g b = subst (λ (y : Option ℕ). area_size_of g (role_in y) ≤ home_index g b) (sym same) placed.low in
    ap (λ (y : Option ℕ). block_at (port_in n y).blocks k) same
    ∙ ap (λ (s : PortState). block_at s.blocks k) one.here
    ∙ ap (λ (i : ℕ). block_at (set p.blocks i (Some v)) k) placed.index_is
    ∙ block-other p.blocks (home_index g b) k v (omega arith)
    ∙ ap (λ (y : Option ℕ). block_at (port_in e y).blocks k) (sym same))
    (λ other. ap (λ (s : PortState). block_at s.blocks k) (one.apart (Some q) other))
    (zone-cases (Some q) (zone_of g b))

pub homed : (g : Geometry) (e : DriveState) (b : ℕ) (v : List ℕ) → ArePorts g e → b < homes_of g → IsHomed g e b v (after_event g (after_event g e (BeginHome b v)) (EndHome b v))
homed g e b v ports inside =
    let n : DriveState = after_event g (after_event g e (BeginHome b v)) (EndHome b v) in
    let one = one-homed g e b v ports inside in
    record {
      count = one.count;
      each = λ z zone. ⊎_elim
          (λ same. subst (λ (y : Option ℕ). IsWrittenHome (port_in e y) (port_in n y)) (sym same)
          (subst (IsWrittenHome (port_in e (zone_of g b))) (sym one.here) (later-home (port_in e (zone_of g b)) (home_lba g b) v)))
          (λ other. subst (IsWrittenHome (port_in e z)) (sym (one.apart z other)) (later-refl (port_in e z)))
          (zone-cases z (zone_of g b));
      homes = λ x within. homed-homes g e n b v x ports inside one;
      area = λ q k low within. homed-area g e n b v q k ports inside one low within;
    }

pub homed-ports : (g : Geometry) (e : DriveState) (b : ℕ) (v : List ℕ) (n : DriveState) → ArePorts g e → IsHomed g e b v n → ArePorts g n
homed-ports g e b v n ports h = ports-of g n (h.count ∙ ports.count) (λ z zone. later-port g (role_in z) (port_in e z) (port_in n z) (h.each z zone) (ports-in g e ports z zone))

-- ---- home writes in a row

else-step : (o : Option (List ℕ)) (t : Bool) (v h : List ℕ) → or_else o (if t then v else h) ≡ or_else (or_kept o (if t then Some v else None)) h
else-step (Some w) t v h = refl
else-step None true v h = refl
else-step None false v h = refl

-- After some of these home writes, with these left: no block is uncertain, the areas are as before, and
-- what is left makes of the home blocks what all make of them.
pub record IsBetween (g : Geometry) (s e : DriveState) (all left : Writes) : Type 0 where
  pub count : length e.queues ≡ length s.queues
  pub each : (z : Option ℕ) → IsZone g z → IsWrittenHome (port_in s z) (port_in e z)
  pub area : (q k : ℕ) → q < g.queues → k < g.area → block_at (port_at e.queues q).blocks k ≡ block_at (port_at s.queues q).blocks k
  pub homes : (x : ℕ) → x < homes_of g → or_else (written left x) (home_in g e x) ≡ or_else (written all x) (home_in g s x)
  pub below : AreBelow (homes_of g) left
  pub fewer : (x : ℕ) → written all x ≡ None → written left x ≡ None

pub between-start : (g : Geometry) (s : DriveState) (all : Writes) → AreBelow (homes_of g) all → IsBetween g s s all all
between-start g s all below = record {
  count = refl;
  each = λ z zone. later-refl (port_in s z);
  area = λ q k low inside. refl;
  homes = λ x inside. refl;
  below = below;
  fewer = λ x none. none;
}

pub between-ports : (g : Geometry) (s e : DriveState) (all left : Writes) → ArePorts g s → IsBetween g s e all left → ArePorts g e
between-ports g s e all left ports between =
    ports-of g e (between.count ∙ ports.count) (λ z zone. later-port g (role_in z) (port_in s z) (port_in e z) (between.each z zone) (ports-in g s ports z zone))

none-left : (o : Option (List ℕ)) (p : Option (List ℕ)) → or_kept o p ≡ None → o ≡ None
none-left None p h = refl
none-left (Some v) p h = cc

-- the block that is written next is one of those that are written
pub next-written : (g : Geometry) (s e : DriveState) (all ws : Writes) (w : ℕ × List ℕ) (x : ℕ) → IsBetween g s e all (w ∷ ws) → written all x ≡ None → w.0 ≢ x
next-written g s e all ws w x between none same = last (written ws x) (subst (λ (t : Bool). or_kept (written ws x) (if t then Some w.1 else None) ≡ None) (eq-eqb w.0 x same) (between.fewer x none))
  where
    last : (o : Option (List ℕ)) → or_kept o (Some w.1) ≡ None → ⊥
    last None h = cc
    last (Some v) h = cc

pub between-step : (g : Geometry) (s e : DriveState) (all ws : Writes) (w : ℕ × List ℕ) → ArePorts g s → IsBetween g s e all (w ∷ ws)
    → IsBetween g s (after_event g (after_event g e (BeginHome w.0 w.1)) (EndHome w.0 w.1)) all ws
between-step g s e all ws w ports between =
    let n : DriveState = after_event g (after_event g e (BeginHome w.0 w.1)) (EndHome w.0 w.1) in
    let low = between.below in
    let h = homed g e w.0 w.1 (between-ports g s e all (w ∷ ws) ports between) low.0 in
    record {
      count = h.count ∙ between.count;
      each = λ z zone. later-then (port_in s z) (port_in e z) (port_in n z) (between.each z zone) (h.each z zone);
      area = λ q k inside within. h.area q k inside within ∙ between.area q k inside within;
      homes = λ x inside.
          ap (or_else (written ws x)) (h.homes x inside)
          ∙ else-step (written ws x) (nat_eq w.0 x) w.1 (home_in g e x)
          ∙ between.homes x inside;
      below = low.1;
      fewer = λ x none. none-left (written ws x) (if nat_eq w.0 x then Some w.1 else None) (between.fewer x none);
    }

pub between-end : (g : Geometry) (s e : DriveState) (all left : Writes) → ArePorts g s → IsBetween g s e all left → IsBetween g s (after_events g e (home_events left)) all []
between-end g s e all [] ports between = between
between-end g s e all (w ∷ ws) ports between =
    between-end g s (after_event g (after_event g e (BeginHome w.0 w.1)) (EndHome w.0 w.1)) all ws ports (between-step g s e all ws w ports between)
