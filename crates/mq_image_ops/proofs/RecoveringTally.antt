-- How many events of a drive happened in a recovery.
use Rattle.std.proofs.Common.{◌≡◌, ◌<◌, ◌≤◌, inl, inr, ℕ, zero, suc, ◌+◌, ◌-◌, ◌*◌, ◌^◌, Bool, List, [], ◌∷◌, ◌++◌, length, map, take, get_or, set, Option, Some, None, refl, sym, ◌∙◌, ap, subst, arith, length-append}
use Rattle.std.proofs.lemmas.Bool.{cases_eq, eq-eqb, ne_eqb}
use Rattle.std.specs.Prelude.{false, if◌then◌else◌, nat_eq, true}
use Rattle.mq_blocks.specs.Descriptor.{AreRising}
use Rattle.mq_blocks.specs.Drive.{FuseName, PortImage, PortState, after_begin, after_end, after_flush, after_store_base, after_store_head, without_last}
use Rattle.mq_blocks.specs.Geometry.{home_lba, homes_of, zone_of}
use Rattle.mq_blocks.specs.Machine.{Writes}
use Rattle.mq_blocks.specs.Totals.{total}
use Rattle.mq_blocks.specs.declared.command.HomeWrite.{HomeWrite}
use Rattle.mq_blocks.specs.declared.geometry.Geometry.{Geometry}
use Rattle.mq_image.specs.File.{DriveImage, queue_ports, root_port}
use Rattle.mq_image.specs.Drives.{IsDrive}
use Rattle.mq_image_ops.specs.Recovering.{events_of, events_of_heads, word_events}
use Rattle.mq_image_ops.proofs.Views.{queues-count, start-at, start-length}
use Rattle.mq_image_ops.specs.Views.{drive_from, starts_from, view_of}
use Rattle.mq_ledger.specs.State.{no_port, port_at}
use Rattle.mq_recover.specs.Drives.{DriveState}
use Rattle.mq_recover.specs.RecoverHomes.{AreBelow}
use Rattle.mq_recover.specs.Events.{BeginHome, EndHome, Event, FlushBase, FlushHead, StoreBase, StoreHead, after_event, after_events, at_home, base_events, heads_events, home_events, recovery_events}
use Rattle.mq_recover.proofs.DrivesZones.{IsZone, at-count, at-each, at-twice, port_in, zone-is}

-- ---- one port

-- the events of a port, two for each home write but those that are under way
abbrev pub tally : PortState → ℕ
tally s = s.events + (2 * s.begins - length s.begun)

-- and those of all ports
abbrev pub tally_of : DriveState → ℕ
tally_of d = total tally d.queues + tally d.root

flush-more : (s : PortState) → tally s < 2 ^ 64 - 1 → tally (after_flush s) ≡ tally s + 1
flush-more s few = omega (arith, few)

head-more : (s : PortState) (head : ℕ) → tally s < 2 ^ 64 - 1 → tally (after_store_head s head) ≡ tally s + 1
head-more s head few = omega (arith, few)

base-more : (s : PortState) (base : ℕ) → tally s < 2 ^ 64 - 1 → tally (after_store_base s base) ≡ tally s + 1
base-more s base few = omega (arith, few)

begin-more : (s : PortState) (lba : ℕ) (block : List ℕ) → s.begun ≡ [] → tally s < 2 ^ 64 - 1 → tally (after_begin s lba block) ≡ tally s + 1
begin-more s lba block none few =
    let empty : length s.begun ≡ 0 = ap length none in
    let long : length (s.begun ++ record { lba = lba; block = block } ∷ []) ≡ length s.begun + 1 = length-append s.begun (record { lba = lba; block = block } ∷ []) in
    omega (arith, few, empty, long)

-- the only home write that is under way ends
ended-none : (lba : ℕ) (block : List ℕ) (ws : List HomeWrite) → ws ≡ [] → without_last lba (ws ++ record { lba = lba; block = block } ∷ []) ≡ []
ended-none lba block ws none =
    ap (λ (l : List HomeWrite). without_last lba (l ++ record { lba = lba; block = block } ∷ [])) none
    ∙ ap (λ (t : Bool). if t then [] else record { lba = lba; block = block } ∷ []) (eq-eqb lba lba refl)

abbrev home_at : (lba : ℕ) (block : List ℕ) → PortState → PortState
home_at lba block s = after_end (after_begin s lba block) lba block

home-none : (s : PortState) (lba : ℕ) (block : List ℕ) → s.begun ≡ [] → (home_at lba block s).begun ≡ []
home-none s lba block none = ended-none lba block s.begun none

home-more : (s : PortState) (lba : ℕ) (block : List ℕ) → s.begun ≡ [] → tally s + 1 < 2 ^ 64 - 1 → tally (home_at lba block s) ≡ tally s + 2
home-more s lba block none few =
    let empty : length s.begun ≡ 0 = ap length none in
    let gone : length (home_at lba block s).begun ≡ 0 = ap length (home-none s lba block none) in
    omega (arith, few, empty, gone)

-- ---- one event of a drive

total-put : (l : List PortState) (q : ℕ) (t d : PortState) → q < length l → total tally (set l q t) + tally (get_or l q d) ≡ total tally l + tally t
total-put [] q t d low = absurd (omega arith)
total-put (s ∷ l) zero t d low = omega arith
total-put (s ∷ l) (suc q) t d low = let rest = total-put l q t d (omega arith) in omega arith

total-one : (l : List PortState) (q : ℕ) (d : PortState) → q < length l → tally (get_or l q d) ≤ total tally l
total-one [] q d low = absurd (omega arith)
total-one (s ∷ l) zero d low = omega arith
total-one (s ∷ l) (suc q) d low = let rest = total-one l q d (omega arith) in omega arith

module _ (g : Geometry) where
  -- one port is a part of all
  port-less : (d : DriveState) (z : Option ℕ) → length d.queues ≡ g.queues → IsZone g z → tally (port_in d z) ≤ tally_of d
  port-less d None count zone = omega arith
  port-less d (Some q) count zone = let one = total-one d.queues q no_port (omega arith) in omega arith

  at-more : (d : DriveState) (z : Option ℕ) (f : PortState → PortState) (n : ℕ) → length d.queues ≡ g.queues → IsZone g z → tally (f (port_in d z)) ≡ tally (port_in d z) + n → tally_of (at_home z f d) ≡ tally_of d + n
  at-more d None f n count zone more = omega (arith, more)
  at-more d (Some q) f n count zone more =
      let put = total-put d.queues q (f (port_at d.queues q)) no_port (omega arith) in
      omega (arith, more, put)

  -- a store or a flush of a word
  abbrev IsWordEvent : Event → Type 0
  IsWordEvent (BeginHome b content) = ⊥
  IsWordEvent (EndHome b content) = ⊥
  IsWordEvent (StoreBase base) = Unit {0}
  IsWordEvent FlushBase = Unit {0}
  IsWordEvent (StoreHead q head) = q < g.queues
  IsWordEvent (FlushHead q) = q < g.queues

  abbrev AreWordEvents : List Event → Type 0
  AreWordEvents [] = Unit {0}
  AreWordEvents (x ∷ xs) = IsWordEvent x × AreWordEvents xs

  event-count : (d : DriveState) (x : Event) → length d.queues ≡ g.queues → IsWordEvent x → length (after_event g d x).queues ≡ g.queues
  event-count d (BeginHome b content) count word = absurd word
  event-count d (EndHome b content) count word = absurd word
  event-count d (StoreBase base) count word = count
  event-count d FlushBase count word = count
  event-count d (StoreHead q head) count word = at-count d (Some q) (λ s. after_store_head s head) ∙ count
  event-count d (FlushHead q) count word = at-count d (Some q) after_flush ∙ count

  event-more : (d : DriveState) (x : Event) → length d.queues ≡ g.queues → IsWordEvent x → tally_of d < 2 ^ 64 - 1 → tally_of (after_event g d x) ≡ tally_of d + 1
  event-more d (BeginHome b content) count word few = absurd word
  event-more d (EndHome b content) count word few = absurd word
  event-more d (StoreBase base) count word few =
      let low = port-less d None count tt in at-more d None (λ s. after_store_base s base) 1 count tt (base-more d.root base (omega (arith, few, low)))
  event-more d FlushBase count word few =
      let low = port-less d None count tt in at-more d None after_flush 1 count tt (flush-more d.root (omega (arith, few, low)))
  event-more d (StoreHead q head) count word few =
      let low = port-less d (Some q) count word in
      at-more d (Some q) (λ s. after_store_head s head) 1 count word (head-more (port_at d.queues q) head (omega (arith, few, low)))
  event-more d (FlushHead q) count word few =
      let low = port-less d (Some q) count word in
      at-more d (Some q) after_flush 1 count word (flush-more (port_at d.queues q) (omega (arith, few, low)))

  -- ---- events in a row

  -- after the first k of these events, k more have happened
  abbrev Counts : DriveState → List Event → Type 0
  Counts d xs = (k : ℕ) → k ≤ length xs → tally_of (after_events g d (take k xs)) ≡ tally_of d + k

  words-count : (d : DriveState) (xs : List Event) → length d.queues ≡ g.queues → AreWordEvents xs → tally_of d + length xs ≤ 2 ^ 64 - 1 → Counts d xs
  words-count d xs count words few zero low = omega arith
  words-count d [] count words few (suc k) low = absurd (omega arith)
  words-count d (x ∷ xs) count words few (suc k) low =
      let one = event-more d x count words.0 (omega (arith, few)) in
      let rest = words-count (after_event g d x) xs (event-count d x count words.0) words.1 (omega (arith, few, one)) k (omega (arith, low)) in
      omega (arith, one, rest)

  -- no home write is under way
  abbrev AreIdle : DriveState → Type 0
  AreIdle d = (z : Option ℕ) → IsZone g z → (port_in d z).begun ≡ []

  -- a home write begins and ends
  abbrev after_home : DriveState → ℕ × List ℕ → DriveState
  after_home d w = after_event g (after_event g d (BeginHome w.0 w.1)) (EndHome w.0 w.1)

  -- which is one change of a port
  once : DriveState → ℕ × List ℕ → DriveState
  once d w = at_home (zone_of g w.0) (λ _. home_at (home_lba g w.0) w.1 (port_in d (zone_of g w.0))) d

  once-is : (d : DriveState) (w : ℕ × List ℕ) → length d.queues ≡ g.queues → w.0 < homes_of g → after_home d w ≡ once d w
  unfolding once
  once-is d w count low = at-twice g d (zone_of g w.0) (λ s. after_begin s (home_lba g w.0) w.1) (λ s. after_end s (home_lba g w.0) w.1) count (zone-is g w.0 low)

  once-more : (d : DriveState) (w : ℕ × List ℕ) → length d.queues ≡ g.queues → w.0 < homes_of g → AreIdle d → tally_of d + 1 < 2 ^ 64 - 1 → tally_of (once d w) ≡ tally_of d + 2
  unfolding once
  once-more d w count low idle few =
      let z = zone_of g w.0 in
      let zone : IsZone g z = zone-is g w.0 low in
      let part = port-less d z count zone in
      at-more d z (λ _. home_at (home_lba g w.0) w.1 (port_in d z)) 2 count zone (home-more (port_in d z) (home_lba g w.0) w.1 (idle z zone) (omega (arith, few, part)))

  once-idle : (d : DriveState) (w : ℕ × List ℕ) → length d.queues ≡ g.queues → w.0 < homes_of g → AreIdle d → AreIdle (once d w)
  unfolding once
  once-idle d w count low idle =
      let z = zone_of g w.0 in
      at-each g (λ y s. s.begun ≡ []) d z (λ _. home_at (home_lba g w.0) w.1 (port_in d z)) count idle (λ zone. home-none (port_in d z) (home_lba g w.0) w.1 (idle z zone))

  once-count : (d : DriveState) (w : ℕ × List ℕ) → length (once d w).queues ≡ length d.queues
  unfolding once
  once-count d w = at-count d (zone_of g w.0) (λ _. home_at (home_lba g w.0) w.1 (port_in d (zone_of g w.0)))

  homes-count : (d : DriveState) (ws : Writes) (rest : List Event) → length d.queues ≡ g.queues → AreIdle d → AreBelow (homes_of g) ws → AreWordEvents rest → tally_of d + length (home_events ws ++ rest) ≤ 2 ^ 64 - 1 → Counts d (home_events ws ++ rest)
  homes-count d [] rest count idle below words few k low = words-count d rest count words few k low
  homes-count d (w ∷ ws) rest count idle below words few zero low = omega arith
  homes-count d (w ∷ ws) rest count idle below words few (suc zero) low =
      let z = zone_of g w.0 in
      let zone : IsZone g z = zone-is g w.0 below.0 in
      let part = port-less d z count zone in
      at-more d z (λ s. after_begin s (home_lba g w.0) w.1) 1 count zone (begin-more (port_in d z) (home_lba g w.0) w.1 (idle z zone) (omega (arith, few, part)))
  homes-count d (w ∷ ws) rest count idle below words few (suc (suc k)) low =
      let two = once-more d w count below.0 idle (omega (arith, few)) in
      let later = homes-count (once d w) ws rest (once-count d w ∙ count) (once-idle d w count below.0 idle) below.1 words (omega (arith, few, two)) k (omega (arith, low)) in
      ap (λ (e : DriveState). tally_of (after_events g e (take k (home_events ws ++ rest)))) (once-is d w count below.0) ∙ (let e : tally_of (after_events g (once d w) (take k (home_events ws ++ rest))) ≡ tally_of d + suc (suc k) = omega (arith, two, later) in e)

  -- ---- the words

  base-words : (old new : ℕ) (rest : List Event) → AreWordEvents rest → AreWordEvents (base_events old new ++ rest)
  base-words old new rest words =
      let P : Bool → Type 0 = λ t. AreWordEvents ((if t then [] else StoreBase new ∷ FlushBase ∷ []) ++ rest) in
      elim (cases_eq old new) [
        | inl same ↦ subst P (sym (eq-eqb old new same)) words
        | inr other ↦ subst P (sym (ne_eqb old new other)) (tt, (tt, words))
      ]

  heads-words : (n : ℕ) (ps : List PortState) → n + length ps ≤ g.queues → AreWordEvents (heads_events n ps)
  heads-words n [] few = tt
  heads-words n (p ∷ ps) few =
      let P : Bool → Type 0 = λ t. AreWordEvents ((if t then [] else StoreHead n p.doorbell ∷ FlushHead n ∷ []) ++ heads_events (n + 1) ps) in
      let words = heads-words (n + 1) ps (omega (arith, few)) in
      let low : n < g.queues = omega (arith, few) in
      elim (cases_eq p.head p.doorbell) [
        | inl same ↦ subst P (sym (eq-eqb p.head p.doorbell same)) words
        | inr other ↦ subst P (sym (ne_eqb p.head p.doorbell other)) (low, (low, words))
      ]

-- ---- how many there are

length-homes : (ws : Writes) (rest : List Event) → length (home_events ws ++ rest) ≡ 2 * length ws + length rest
length-homes [] rest = omega arith
length-homes (w ∷ ws) rest = let later = length-homes ws rest in omega (arith, later)

length-pair : (t : Bool) (a b : Event) (rest : List Event) → length ((if t then [] else a ∷ b ∷ []) ++ rest) ≡ (if t then 0 else 2) + length rest
length-pair true a b rest = omega arith
length-pair false a b rest = omega arith

length-heads : (g : Geometry) (fuse : FuseName) (n m : ℕ) (is : List PortImage) → length (heads_events n (starts_from g fuse None m is)) ≡ events_of_heads is
length-heads g fuse n m [] = refl
length-heads g fuse n m (i ∷ is) =
    let later = length-heads g fuse (n + 1) (m + 1) is in
    length-pair (nat_eq i.head i.doorbell) (StoreHead n i.doorbell) (FlushHead n) (heads_events (n + 1) (starts_from g fuse None (m + 1) is)) ∙ ap (λ (k : ℕ). word_events i.head i.doorbell + k) later

pub recovery-length : (fuse : FuseName) (x : DriveImage) (writes : Writes) (top : ℕ) → length (recovery_events (drive_from fuse None x) writes top) ≡ events_of x writes top
recovery-length fuse x writes top =
    let heads = length-heads x.geometry fuse 0 0 (queue_ports x) in
    let base = length-pair (nat_eq (root_port x).base top) (StoreBase top) FlushBase (heads_events 0 (starts_from x.geometry fuse None 0 (queue_ports x))) in
    length-homes writes (base_events (root_port x).base top ++ heads_events 0 (starts_from x.geometry fuse None 0 (queue_ports x)))
    ∙ ap (λ (k : ℕ). 2 * length writes + k) (base ∙ ap (λ (k : ℕ). word_events (root_port x).base top + k) heads)

word-few : (old new : ℕ) → word_events old new ≤ 2
word-few old new = few (nat_eq old new)
  where
    few : (t : Bool) → (if t then 0 else 2) ≤ 2
    few true = omega arith
    few false = omega arith

heads-few : (is : List PortImage) → events_of_heads is ≤ 2 * length is
heads-few [] = omega arith
heads-few (i ∷ is) = let one = word-few i.head i.doorbell in let later = heads-few is in omega (arith, one, later)

rising-few : (low high : ℕ) (ws : Writes) → AreRising low high (map (λ w. w.0) ws) → low ≤ high → length ws + low ≤ high
rising-few low high [] rising order = omega (arith, order)
rising-few low high (w ∷ ws) rising order =
    let a = rising.0 in
    let b = rising.1 in
    let later = rising-few (w.0 + 1) high ws rising.2 (omega (arith, b)) in
    omega (arith, a, later)

pub few-events : (x : DriveImage) (writes : Writes) (top : ℕ) → IsDrive x → AreRising 0 (homes_of x.geometry) (map (λ w. w.0) writes) → events_of x writes top ≤ 65604
few-events x writes top drive rising =
    let a = rising-few 0 (homes_of x.geometry) writes rising (omega arith) in
    let b = word-few (view_of x).base top in
    let c = heads-few (queue_ports x) in
    let d = queues-count x drive in
    let e = x.geometry.queues_high in
    let f = x.geometry.homes_high in
    omega (arith, a, b, c, d, e, f)

-- ---- the drive that starts from an image

start-tally : (g : Geometry) (fuse : FuseName) (n : ℕ) (is : List PortImage) → total tally (starts_from g fuse None n is) ≡ 0
start-tally g fuse n [] = refl
start-tally g fuse n (i ∷ is) = let rest = start-tally g fuse (n + 1) is in omega (arith, rest)

start-idle : (fuse : FuseName) (x : DriveImage) → IsDrive x → AreIdle x.geometry (drive_from fuse None x)
start-idle fuse x drive None zone = refl
start-idle fuse x drive (Some q) zone = let many = queues-count x drive in ap (λ (s : PortState). s.begun) (start-at x.geometry fuse None 0 (queue_ports x) q (omega (arith, many, zone)))

-- after the first k events of a recovery, k have happened
pub recovery-tally : (fuse : FuseName) (x : DriveImage) (writes : Writes) (top k : ℕ) → IsDrive x → AreRising 0 (homes_of x.geometry) (map (λ w. w.0) writes) → AreBelow (homes_of x.geometry) writes → k ≤ events_of x writes top
    → tally_of (after_events x.geometry (drive_from fuse None x) (take k (recovery_events (drive_from fuse None x) writes top))) ≡ k
recovery-tally fuse x writes top k drive rising below low =
    let g = x.geometry in
    let d = drive_from fuse None x in
    let long = recovery-length fuse x writes top in
    let few = few-events x writes top drive rising in
    let none = start-tally g fuse 0 (queue_ports x) in
    let count : length d.queues ≡ g.queues = start-length g fuse None 0 (queue_ports x) ∙ queues-count x drive in
    let words : AreWordEvents g (base_events d.root.base top ++ heads_events 0 d.queues) = base-words g d.root.base top (heads_events 0 d.queues) (heads-words g 0 d.queues (omega (arith, count))) in
    let counts = homes-count g d writes (base_events d.root.base top ++ heads_events 0 d.queues) count (start-idle fuse x drive) below words (omega (arith, long, few, none)) k (omega (arith, low, long)) in
    omega (arith, counts, none)
