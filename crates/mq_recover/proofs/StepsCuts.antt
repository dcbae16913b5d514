-- Each event of a recovery leads from stage to stage.
use Rattle.std.proofs.Common.{◌≡◌, ◌≢◌, ◌<◌, ◌≤◌, inl, inr, ⊎_elim, ℕ, zero, suc, ◌+◌, ◌-◌, Bool, true, false, List, [], ◌∷◌, ◌++◌, length, take, drop, Option, Some, None, get_or, set, refl, sym, ◌∙◌, ap, subst, arith}
use Rattle.std.proofs.lemmas.Bool.{cases_eq, eq-eqb, ne_eqb}
use Rattle.std.proofs.lemmas.List.{ext_get_or, get_or-set_other, drop_more, length-drop}
use Rattle.std.specs.Prelude.{if◌then◌else◌}
use Rattle.mq_blocks.specs.Blocks.{block_at}
use Rattle.mq_blocks.specs.Drive.{PortState, IsQuiescent, index_of, after_begin, after_flush, after_store_base, after_store_head}
use Rattle.mq_blocks.specs.Geometry.{homes_of, home_lba, zone_of}
use Rattle.mq_blocks.specs.Journal.{or_else}
use Rattle.mq_blocks.specs.Machine.{Writes}
use Rattle.mq_blocks.specs.declared.geometry.Geometry.{Geometry}
use Rattle.mq_ledger.specs.Sides.{home_index}
use Rattle.mq_ledger.specs.State.{no_port, port_at}
use Rattle.mq_drive.specs.Start.{IsPortOf, area_size_of}
use Rattle.mq_drive.specs.declared.role.Role.{Role}
use Rattle.mq_recover.specs.Drives.{DriveState, IsQuiescentDrive}
use Rattle.mq_recover.specs.RecoverHomes.{written, AreBelow}
use Rattle.mq_recover.specs.Events.{Event, BeginHome, EndHome, StoreBase, FlushBase, StoreHead, FlushHead, at_home, after_event, after_events, home_events, base_events, heads_events, recovery_events}
use Rattle.mq_recover.proofs.RecoverHomes.{IsBetween, between-start, between-step, between-ports, next-written}
use Rattle.mq_recover.proofs.DrivesStages.{IsSure, IsKept, AreKept, AreWordsKept, IsHeadMoving, words-heads, IsGoing, AreHome, IsRaising, IsMoving, IsStage}
use Rattle.mq_recover.proofs.DrivesZones.{IsZone, port_in, role_in, home_in, zone-is, still-in, still-ports, ports-in, at-count, at-one, at-each, placed-at, place-apart}

-- ---- between two home writes

pub staged-same : (g : Geometry) (role : Role) (s : PortState) → IsPortOf g role s → IsQuiescent s → s.staged ≡ s.flushed
staged-same g role s port quiet =
    let none : length s.pending ≡ 0 = ap length quiet.pending in
    let end = quiet.flushed_end in
    sym (ext_get_or [] s.flushed s.staged (port.flushed ∙ sym port.staged) (λ k within. port.settled k within (λ c low high at. omega arith)))

area-between : (g : Geometry) (s e : DriveState) (all left : Writes) (z : Option ℕ) (k : ℕ) → IsBetween g s e all left → IsZone g z → k < area_size_of g (role_in z) → block_at (port_in e z).blocks k ≡ block_at (port_in s z).blocks k
area-between g s e all left None k between zone inside = absurd (omega arith)
area-between g s e all left (Some q) k between zone inside = between.area q k zone inside

between-kept : (g : Geometry) (s e : DriveState) (all left : Writes) → IsQuiescentDrive g s → IsBetween g s e all left → AreKept g s e
between-kept g s e all left still between = record {
  count = between.count;
  each = λ z zone.
      let w = between.each z zone in
      let same = w.same in
      let port = (still-in g s still z zone).port in
      let quiet = (still-in g s still z zone).quiet in
      let blocks_size = port.blocks in
      let certain_size = port.certain in
      record {
        doorbell = ap (λ (t : PortState). t.doorbell) same;
        flushed = ap (λ (t : PortState). t.flushed) same;
        staged = ap (λ (t : PortState). t.staged) same ∙ staged-same g (role_in z) (port_in s z) port quiet;
        flushed_end = ap (λ (t : PortState). t.flushed_end) same ∙ quiet.flushed_end ∙ sym (ap (λ (t : PortState). t.doorbell) same);
        pending = ap (λ (t : PortState). t.pending) same ∙ quiet.pending;
        posted = ap (λ (t : PortState). t.posted) same ∙ quiet.posted;
        blocks_len = w.blocks_len;
        area = λ k inside. record { certain = w.certain k (quiet.certain k (omega arith)); is = area-between g s e all left z k between zone inside };
      };
}

between-words : (g : Geometry) (s e : DriveState) (all left : Writes) → IsQuiescentDrive g s → IsBetween g s e all left → (z : Option ℕ) → IsZone g z → AreWordsKept (port_in s z) (port_in e z)
between-words g s e all left still between z zone =
    let same = (between.each z zone).same in
    let quiet = (still-in g s still z zone).quiet in
    record {
      head = ap (λ (t : PortState). t.head) same;
      stored_head = ap (λ (t : PortState). t.stored_head) same ∙ quiet.head;
      base = ap (λ (t : PortState). t.base) same;
      stored_base = ap (λ (t : PortState). t.stored_base) same ∙ quiet.base;
    }

home-certain : (g : Geometry) (s e : DriveState) (all left : Writes) (x : ℕ) → IsQuiescentDrive g s → IsBetween g s e all left → x < homes_of g → get_or (port_in e (zone_of g x)).certain (home_index g x) false ≡ true
home-certain g s e all left x still between inside =
    let zone = zone-is g x inside in
    let here = still-in g s still (zone_of g x) zone in
    let placed = placed-at g x (port_in s (zone_of g x)) here.port in
    let high = placed.high in
    let certain_size = here.port.certain in
    (between.each (zone_of g x) zone).certain (home_index g x) (here.quiet.certain (home_index g x) (omega arith))

unwritten : (o p : Option (List ℕ)) (new old : List ℕ) → o ≡ None → p ≡ None → or_else o new ≡ or_else p old → new ≡ old
unwritten o p new old first second same = ap (λ (x : Option (List ℕ)). or_else x new) (sym first) ∙ same ∙ ap (λ (x : Option (List ℕ)). or_else x old) second

between-going : (g : Geometry) (s e : DriveState) (all left : Writes) → IsQuiescentDrive g s → IsBetween g s e all left → IsGoing g s e all
between-going g s e all left still between = record {
  words = between-words g s e all left still between;
  homes = λ x inside none. record {
    certain = home-certain g s e all left x still between inside;
    is = unwritten (written left x) (written all x) (home_in g e x) (home_in g s x) (between.fewer x none) none (between.homes x inside);
  };
}

-- when none is left, all is home
between-home : (g : Geometry) (s e : DriveState) (all : Writes) → IsQuiescentDrive g s → IsBetween g s e all [] → AreHome g s e all
between-home g s e all still between x inside = record { certain = home-certain g s e all [] x still between inside; is = between.homes x inside }

-- ---- a home write has begun

still-certain : (certain : List Bool) (i k : ℕ) → i ≢ k → get_or certain k false ≡ true → get_or (set certain i false) k false ≡ true
still-certain certain i k apart h = get_or-set_other certain i k false false (λ e. apart (sym e)) ∙ h

-- a port in which another block than these is written home keeps its log
begun-kept : (g : Geometry) (z : Option ℕ) (s t : PortState) (lba : ℕ) (block : List ℕ) → area_size_of g (role_in z) ≤ index_of t lba → IsKept g z s t → IsKept g z s (after_begin t lba block)
begun-kept g z s t lba block past kept = record {
  doorbell = kept.doorbell;
  flushed = kept.flushed;
  staged = kept.staged;
  flushed_end = kept.flushed_end;
  pending = kept.pending;
  posted = kept.posted;
  blocks_len = kept.blocks_len;
  area = λ k inside. let h = kept.area k inside in record { certain = still-certain t.certain (index_of t lba) k (λ same. omega arith) h.certain; is = h.is };
}

begun : (g : Geometry) (s e : DriveState) (all ws : Writes) (w : ℕ × List ℕ) (top : ℕ) → IsQuiescentDrive g s → IsBetween g s e all (w ∷ ws) → IsStage g s (after_event g e (BeginHome w.0 w.1)) all top
begun g s e all ws w top still between =
    let z : Option ℕ = zone_of g w.0 in
    let begin : PortState → PortState = λ t. after_begin t (home_lba g w.0) w.1 in
    let kept = between-kept g s e all (w ∷ ws) still between in
    let going = between-going g s e all (w ∷ ws) still between in
    let ports = between-ports g s e all (w ∷ ws) (still-ports g s still) between in
    let low = between.below in
    let zone : IsZone g z = zone-is g w.0 low.0 in
    let placed = placed-at g w.0 (port_in e z) (ports-in g e ports z zone) in
    let past : area_size_of g (role_in z) ≤ index_of (port_in e z) (home_lba g w.0) = subst (λ (n : ℕ). area_size_of g (role_in z) ≤ n) (sym placed.index_is) placed.low in (
      record {
        count = at-count e z begin ∙ kept.count;
        each = at-each g (λ y t. IsKept g y (port_in s y) t) e z begin ports.count kept.each (λ own. begun-kept g z (port_in s z) (port_in e z) (home_lba g w.0) w.1 past (kept.each z own));
      },
      inl
          (record {
            words = at-each g (λ y t. AreWordsKept (port_in s y) t) e z begin ports.count going.words
                (λ own. let h = going.words z own in record { head = h.head; stored_head = h.stored_head; base = h.base; stored_base = h.stored_base });
            homes = λ x inside none.
                let k : ℕ = home_index g x in
                let v : List ℕ = home_in g s x in
                at-one g (λ t. IsSure t k v) e (zone_of g x) z begin ports.count (zone-is g x inside)
                (λ same.
                let h = subst (λ (y : Option ℕ). IsSure (port_in e y) k v) same (going.homes x inside none) in
                let apart = next-written g s e all ws w x between none in
                record {
                  certain = still-certain (port_in e z).certain (index_of (port_in e z) (home_lba g w.0)) k (λ at. apart (place-apart g w.0 x (sym same) (sym placed.index_is ∙ at))) h.certain;
                  is = h.is;
                })
                (λ other. going.homes x inside none);
          }),
    )

-- ---- the heads

pub record IsAtMoving (g : Geometry) (s e : DriveState) (all : Writes) (top : ℕ) : Type 0 where
  pub kept : AreKept g s e
  pub moving : IsMoving g s e all top

-- a change of the words leaves the home blocks
same-homes : (g : Geometry) (s e : DriveState) (z : Option ℕ) (f : PortState → PortState) (all : Writes) → length e.queues ≡ g.queues → ((t : PortState) → (f t).blocks ≡ t.blocks) → ((t : PortState) → (f t).certain ≡ t.certain)
    → AreHome g s e all → AreHome g s (at_home z f e) all
same-homes g s e z f all count blocks certain homes x inside =
    let k : ℕ = home_index g x in
    let v : List ℕ = or_else (written all x) (home_in g s x) in
    at-one g (λ t. IsSure t k v) e (zone_of g x) z f count (zone-is g x inside)
    (λ same.
    let h = subst (λ (y : Option ℕ). IsSure (port_in e y) k v) same (homes x inside) in
    record {
      certain = ap (λ (l : List Bool). get_or l k false) (certain (port_in e z)) ∙ h.certain;
      is = ap (λ (l : List (Option (List ℕ))). block_at l k) (blocks (port_in e z)) ∙ h.is;
    })
    (λ other. homes x inside)

-- a flush of a port that has nothing staged keeps its log
flush-kept : (g : Geometry) (z : Option ℕ) (s t : PortState) → IsKept g z s t → IsKept g z s (after_flush t)
flush-kept g z s t kept =
    let none : length t.pending ≡ 0 = ap length kept.pending in
    record {
      doorbell = kept.doorbell;
      flushed = kept.staged;
      staged = kept.staged;
      flushed_end = omega (arith, none);
      pending = kept.pending;
      posted = kept.posted;
      blocks_len = kept.blocks_len;
      area = λ k inside. let h = kept.area k inside in record { certain = h.certain; is = h.is };
    }

-- so does a store of a word
store-kept : (g : Geometry) (z : Option ℕ) (s t : PortState) (stored_head stored_base events : ℕ) → IsKept g z s t → IsKept g z s (record t { stored_head = stored_head; stored_base = stored_base; events = events })
store-kept g z s t stored_head stored_base events kept = record {
  doorbell = kept.doorbell;
  flushed = kept.flushed;
  staged = kept.staged;
  flushed_end = kept.flushed_end;
  pending = kept.pending;
  posted = kept.posted;
  blocks_len = kept.blocks_len;
  area = λ k inside. let h = kept.area k inside in record { certain = h.certain; is = h.is };
}

at-kept : (g : Geometry) (s e : DriveState) (z : Option ℕ) (f : PortState → PortState) → length s.queues ≡ g.queues → ((t : PortState) → IsKept g z (port_in s z) t → IsKept g z (port_in s z) (f t)) → AreKept g s e → AreKept g s (at_home z f e)
at-kept g s e z f count along kept = record {
  count = at-count e z f ∙ kept.count;
  each = at-each g (λ y t. IsKept g y (port_in s y) t) e z f (kept.count ∙ count) kept.each (λ own. along (port_in e z) (kept.each z own));
}

head-stored : (g : Geometry) (s e : DriveState) (all : Writes) (top q : ℕ) → length s.queues ≡ g.queues → q < g.queues → IsAtMoving g s e all top → IsAtMoving g s (after_event g e (StoreHead q (port_at s.queues q).doorbell)) all top
head-stored g s e all top q count own at =
    let bell : ℕ = (port_at s.queues q).doorbell in
    let store : PortState → PortState = λ t. after_store_head t bell in
    let moving = at.moving in
    record {
      kept = at-kept g s e (Some q) store count (λ t h. store-kept g (Some q) (port_at s.queues q) t bell t.stored_base (store t).events h) at.kept;
      moving = record {
        homes = same-homes g s e (Some q) store all (at.kept.count ∙ count) (λ t. refl) (λ t. refl) moving.homes;
        base = moving.base;
        stored_base = moving.stored_base;
        heads = λ r low. at-one g (λ t. IsHeadMoving (port_at s.queues r) t) e (Some r) (Some q) store (at.kept.count ∙ count) low
            (λ same. subst (λ (y : Option ℕ). IsHeadMoving (port_in s y) (store (port_at e.queues q))) (sym same) (record { head = (moving.heads q own).head; stored_head = inr refl }))
            (λ other. moving.heads r low);
      };
    }

head-flushed : (g : Geometry) (s e : DriveState) (all : Writes) (top q : ℕ) → length s.queues ≡ g.queues → q < g.queues → IsAtMoving g s e all top → IsAtMoving g s (after_event g e (FlushHead q)) all top
head-flushed g s e all top q count own at =
    let moving = at.moving in
    record {
      kept = at-kept g s e (Some q) after_flush count (λ t h. flush-kept g (Some q) (port_at s.queues q) t h) at.kept;
      moving = record {
        homes = same-homes g s e (Some q) after_flush all (at.kept.count ∙ count) (λ t. refl) (λ t. refl) moving.homes;
        base = moving.base;
        stored_base = moving.stored_base;
        heads = λ r low. at-one g (λ t. IsHeadMoving (port_at s.queues r) t) e (Some r) (Some q) after_flush (at.kept.count ∙ count) low
            (λ same. subst (λ (y : Option ℕ). IsHeadMoving (port_in s y) (after_flush (port_at e.queues q))) (sym same)
            (record { head = (moving.heads q own).stored_head; stored_head = (moving.heads q own).stored_head }))
            (λ other. moving.heads r low);
      };
    }

moving-stage : (g : Geometry) (s e : DriveState) (all : Writes) (top : ℕ) → IsAtMoving g s e all top → IsStage g s e all top
moving-stage g s e all top at = (at.kept, inr (inr at.moving))

-- at each of these events the recovery is at some stage, from where all is home on
abbrev AreStages : (g : Geometry) (s : DriveState) (all : Writes) (top : ℕ) → List Event → Type 0
AreStages g s all top xs = (e : DriveState) (k : ℕ) → IsAtMoving g s e all top → IsStage g s (after_events g e (take k xs)) all top

one-head : (g : Geometry) (s : DriveState) (all : Writes) (top q : ℕ) (rest : List Event) → length s.queues ≡ g.queues → q < g.queues → AreStages g s all top rest → AreStages g s all top (StoreHead q (port_at s.queues q).doorbell ∷ FlushHead q ∷ rest)
one-head g s all top q rest count own stages e zero at = moving-stage g s e all top at
one-head g s all top q rest count own stages e (suc zero) at =
    moving-stage g s (after_event g e (StoreHead q (port_at s.queues q).doorbell)) all top (head-stored g s e all top q count own at)
one-head g s all top q rest count own stages e (suc (suc k)) at =
    let stored : DriveState = after_event g e (StoreHead q (port_at s.queues q).doorbell) in
    stages (after_event g stored (FlushHead q)) k (head-flushed g s stored all top q count own (head-stored g s e all top q count own at))

-- the first of the ports that are left, and those after it
record IsSplit (s : DriveState) (q : ℕ) (p : PortState) (ps : List PortState) : Type 0 where
  within : q < length s.queues
  first : p ≡ port_at s.queues q
  later : ps ≡ drop (q + 1) s.queues

split : (s : DriveState) (q : ℕ) (p : PortState) (ps : List PortState) → p ∷ ps ≡ drop q s.queues → IsSplit s q p ps
split s q p ps is =
    let long : length (p ∷ ps) ≡ length s.queues - q = ap length is ∙ length-drop q s.queues in
    let within : q < length s.queues = omega arith in
    let next : p ∷ ps ≡ port_at s.queues q ∷ drop (q + 1) s.queues = is ∙ drop_more s.queues q no_port within in
    record { within = within; first = cc; later = cc }

heads : (g : Geometry) (s : DriveState) (all : Writes) (top q : ℕ) (ps : List PortState) → length s.queues ≡ g.queues → ps ≡ drop q s.queues → AreStages g s all top (heads_events q ps)
heads g s all top q [] count is e zero at = moving-stage g s e all top at
heads g s all top q [] count is e (suc k) at = moving-stage g s e all top at
heads g s all top q (p ∷ ps) count is e k at =
    let parts = split s q p ps is in
    let within = parts.within in
    let rest : List Event = heads_events (q + 1) ps in
    let later : AreStages g s all top rest = heads g s all top (q + 1) ps count parts.later in
    let P : Bool → Type 0 = λ t. IsStage g s (after_events g e (take k ((if t then [] else StoreHead q p.doorbell ∷ FlushHead q ∷ []) ++ rest))) all top in
    ⊎_elim
    (λ same. subst P (sym (eq-eqb p.head p.doorbell same)) (later e k at))
    (λ other. subst P (sym (ne_eqb p.head p.doorbell other))
    (subst (λ (r : PortState). IsStage g s (after_events g e (take k (StoreHead q r.doorbell ∷ FlushHead q ∷ rest))) all top) (sym parts.first) (one-head g s all top q rest count (omega arith) later e k at)))
    (cases_eq p.head p.doorbell)

-- ---- the base

record IsAtRaising (g : Geometry) (s e : DriveState) (all : Writes) (top : ℕ) : Type 0 where
  kept : AreKept g s e
  raising : IsRaising g s e all top

between-raising : (g : Geometry) (s e : DriveState) (all : Writes) (top : ℕ) → IsQuiescentDrive g s → IsBetween g s e all [] → IsAtRaising g s e all top
between-raising g s e all top still between =
    let going = between-going g s e all [] still between in
    let words = going.words None tt in
    record {
      kept = between-kept g s e all [] still between;
      raising = record {
        homes = between-home g s e all still between;
        base = inl words.base;
        stored_base = inl words.stored_base;
        heads = words-heads g s e going.words;
      };
    }

base-stored : (g : Geometry) (s e : DriveState) (all : Writes) (top : ℕ) → length s.queues ≡ g.queues → IsAtRaising g s e all top → IsAtRaising g s (after_event g e (StoreBase top)) all top
base-stored g s e all top count at =
    let raising = at.raising in
    let store : PortState → PortState = λ t. after_store_base t top in
    record {
      kept = at-kept g s e None store count (λ t h. store-kept g None s.root t t.stored_head top (store t).events h) at.kept;
      raising = record {
        homes = same-homes g s e None store all (at.kept.count ∙ count) (λ t. refl) (λ t. refl) raising.homes;
        base = raising.base;
        stored_base = inr refl;
        heads = raising.heads;
      };
    }

-- where the stored base is the new one, a flush makes it certain
base-flushed : (g : Geometry) (s e : DriveState) (all : Writes) (top : ℕ) → length s.queues ≡ g.queues → e.root.stored_base ≡ top → IsAtRaising g s e all top → IsAtMoving g s (after_event g e FlushBase) all top
base-flushed g s e all top count stored at =
    let raising = at.raising in
    record {
      kept = at-kept g s e None after_flush count (λ t h. flush-kept g None s.root t h) at.kept;
      moving = record {
        homes = same-homes g s e None after_flush all (at.kept.count ∙ count) (λ t. refl) (λ t. refl) raising.homes;
        base = stored;
        stored_base = stored;
        heads = λ q own. let h = raising.heads q own in record { head = inl h.head; stored_head = inl h.stored_head };
      };
    }

-- a base that does not change is the new one
base-same : (g : Geometry) (s e : DriveState) (all : Writes) (top : ℕ) → s.root.base ≡ top → IsQuiescentDrive g s → IsBetween g s e all [] → IsAtMoving g s e all top
base-same g s e all top same still between =
    let going = between-going g s e all [] still between in
    let words = going.words None tt in
    record {
      kept = between-kept g s e all [] still between;
      moving = record {
        homes = between-home g s e all still between;
        base = words.base ∙ same;
        stored_base = words.stored_base ∙ same;
        heads = λ q own. let h = going.words (Some q) own in record { head = inl h.head; stored_head = inl h.stored_head };
      };
    }

some-bases : (g : Geometry) (s e : DriveState) (all : Writes) (top k : ℕ) (rest : List Event) → length s.queues ≡ g.queues → AreStages g s all top rest → IsAtRaising g s e all top
    → IsStage g s (after_events g e (take k (StoreBase top ∷ FlushBase ∷ rest))) all top
some-bases g s e all top zero rest count stages at = (at.kept, inr (inl at.raising))
some-bases g s e all top (suc zero) rest count stages at = let stored = base-stored g s e all top count at in (stored.kept, inr (inl stored.raising))
some-bases g s e all top (suc (suc k)) rest count stages at =
    let stored : DriveState = after_event g e (StoreBase top) in
    stages (after_event g stored FlushBase) k (base-flushed g s stored all top count refl (base-stored g s e all top count at))

words : (g : Geometry) (s e : DriveState) (all : Writes) (top k : ℕ) → IsQuiescentDrive g s → IsBetween g s e all []
    → IsStage g s (after_events g e (take k (base_events s.root.base top ++ heads_events 0 s.queues))) all top
words g s e all top k still between =
    let rest : List Event = heads_events 0 s.queues in
    let P : Bool → Type 0 = λ t. IsStage g s (after_events g e (take k ((if t then [] else StoreBase top ∷ FlushBase ∷ []) ++ rest))) all top in
    let stages : AreStages g s all top rest = heads g s all top 0 s.queues still.count refl in
    ⊎_elim
    (λ same. subst P (sym (eq-eqb s.root.base top same)) (stages e k (base-same g s e all top same still between)))
    (λ other. subst P (sym (ne_eqb s.root.base top other)) (some-bases g s e all top k rest still.count stages (between-raising g s e all top still between)))
    (cases_eq s.root.base top)

-- ---- all events

homes-then : (g : Geometry) (s e : DriveState) (all left : Writes) (top k : ℕ) → IsQuiescentDrive g s → IsBetween g s e all left
    → IsStage g s (after_events g e (take k (home_events left ++ (base_events s.root.base top ++ heads_events 0 s.queues)))) all top
homes-then g s e all [] top k still between = words g s e all top k still between
homes-then g s e all (w ∷ ws) top zero still between = (between-kept g s e all (w ∷ ws) still between, inl (between-going g s e all (w ∷ ws) still between))
homes-then g s e all (w ∷ ws) top (suc zero) still between = begun g s e all ws w top still between
homes-then g s e all (w ∷ ws) top (suc (suc k)) still between =
    homes-then g s (after_event g (after_event g e (BeginHome w.0 w.1)) (EndHome w.0 w.1)) all ws top k still
    (between-step g s e all ws w (still-ports g s still) between)

-- at each event a recovery is at some stage
pub each-stage : (g : Geometry) (s : DriveState) (writes : Writes) (top k : ℕ) → IsQuiescentDrive g s → AreBelow (homes_of g) writes → IsStage g s (after_events g s (take k (recovery_events s writes top))) writes top
each-stage g s writes top k still below = homes-then g s s writes writes top k still (between-start g s writes below)
