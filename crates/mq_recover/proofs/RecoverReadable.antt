-- A readable queue: what is found through its port is what an image of the port shows.
use Rattle.std.proofs.Common.{◌≡◌, ◌<◌, ◌≤◌, ◌⊎◌, inl, inr, ℕ, ◌+◌, ◌-◌, ◌*◌, ◌%◌, true, List, [], ◌∷◌, length, Option, Some, None, refl, sym, ◌∙◌, ap, subst, arith, get_or}
use Rattle.std.proofs.lemmas.Bool.{cases_eq, cases_lt}
use Rattle.std.proofs.Math.Nat.{mod-mod, mod-eq_of_lt, mod-lt, mod-add-mod, add-mod_right}
use Rattle.std.specs.Prelude.{IfOk, IfErr, IsErrOf, MatchResult, Result, Ok, Err}
use Rattle.mq_area.specs.Reading.{Accepts, PlaceFits}
use Rattle.mq_area.specs.declared.descriptor.PlaceIs.{PlaceIs}
use Rattle.mq_area.specs.declared.descriptor.PlaceIs.TheVariants.{Index, Exact}
use Rattle.mq_blocks.specs.Blocks.{block_at}
use Rattle.mq_blocks.specs.Limits.{depth}
use Rattle.mq_blocks.specs.Descriptor.{Descriptor, first_place, DescriptorForm, IsDescriptor, journal_form}
use Rattle.mq_blocks.specs.Drive.{PortState}
use Rattle.mq_blocks.specs.Geometry.{area_of, area_lba, homes_of, write_limit}
use Rattle.mq_blocks.specs.Journal.{Shown, Has, Holds, IsChain, AreInReach, IsQueueChain}
use Rattle.mq_blocks.specs.declared.geometry.Geometry.{Geometry}
use Rattle.mq_drive.specs.Roles.{role_of}
use Rattle.mq_drive.specs.Start.{IsPortOf}
use Rattle.mq_drive.specs.declared.role.Role.{Role}
use Rattle.mq_drive.specs.declared.role.Role.TheVariants.{Queue}
use Rattle.mq_nvme.specs.Says.{says}
use Rattle.mq_ledger.proofs.JournalChains.{chain-none}
use Rattle.mq_recover.specs.Recover.{IsSeenAt, IsQueuePort, AreFalling, where_of}
use Rattle.mq_recover.specs.Reader.{Accepting}
use Rattle.mq_recover.specs.Refusals.{IsNewest, AreFoundBy, IsIndex, IsWholeChainBy, IsReadable, IsReadableBy, RefusesQueue, entry_at, expected, block_where, before_where}
use Rattle.mq_recover.specs.declared.refusal.ChainRefusal.{ChainRefusal}
use Rattle.mq_recover.specs.declared.refusal.ChainRefusal.TheVariants.{OutOfMemory}
use Rattle.mq_recover.proofs.Refusals.{readable-once, readable-refused, refuses-queue-once}

pub where-fits : (area : ℕ) (p : PlaceIs) (place : ℕ) → PlaceFits area p place → where_of p % area ≡ place % area
where-fits area (Index index) place fits = ap (λ (n : ℕ). n % area) (sym fits) ∙ mod-mod place area
where-fits area (Exact exact) place fits = ap (λ (n : ℕ). n % area) (sym fits)

-- the block before the one where it is expected is the one before its place
before-fits : (area : ℕ) (p : PlaceIs) (place : ℕ) → 0 < area → 0 < place → PlaceFits area p place → (where_of p % area + (area - 1)) % area ≡ (place - 1) % area
before-fits area p place some above fits =
    let e : place + (area - 1) ≡ place - 1 + area = omega arith in
    ap (λ (n : ℕ). (n + (area - 1)) % area) (where-fits area p place fits) ∙ mod-add-mod place area (area - 1) ∙ ap (λ (n : ℕ). n % area) e ∙ add-mod_right (place - 1) area

-- the image shows the words, entries and area of this port as those of queue q, over this base
pub record IsLogSeen (q base : ℕ) (s : PortState) (i : Shown) : Type 0 where
  pub base_is : i.base ≡ base
  pub head_is : i.head q ≡ s.head
  pub doorbell_is : i.doorbell q ≡ s.doorbell
  pub entry_is : (k : ℕ) → i.entry q k ≡ says (get_or s.flushed k [])
  pub area_is : (k : ℕ) → i.area q k ≡ block_at s.blocks k

log-seen : (q base : ℕ) (s : PortState) (i : Shown) → IsSeenAt q base s i → IsLogSeen q base s i
log-seen q base s i seen = record { base_is = seen.base_is; head_is = seen.head_is; doorbell_is = seen.doorbell_is; entry_is = seen.entry_is; area_is = seen.area_is }

-- each of these that is accepted stands there in the image
abbrev pub Shows : Accepting → Geometry → Shown → PortState → ℕ → List Descriptor → Type 0
Shows accepts g i s q ds =
    (number : ℕ) (at : PlaceIs) (d : Descriptor) → Has ds d → accepts g (expected q number at) (block_where g s at) (before_where g s at) d → Holds g i q number d.place d × PlaceFits (area_of g) at d.place

-- and the other way round
abbrev pub Reads : Accepting → Geometry → Shown → PortState → ℕ → List Descriptor → Type 0
Reads accepts g i s q ds =
    (number place : ℕ) (at : PlaceIs) (d : Descriptor) → Has ds d → PlaceFits (area_of g) at place → Holds g i q number place d → accepts g (expected q number at) (block_where g s at) (before_where g s at) d

-- ---- what is found is shown

record IsShownChain (g : Geometry) (i : Shown) (q number index : ℕ) (ds : List Descriptor) : Type 0 where
  place : ℕ
  fits : place % g.area ≡ index
  chain : IsChain g i q number place ds
  reach : AreInReach g place ds

module _ (accepts : Accepting) where
  found-chain : (all : List Descriptor) (g : Geometry) (i : Shown) (s : PortState) (q number place n : ℕ) (ds : List Descriptor) (next : ℕ) (at : PlaceIs) (m : Option ℕ)
      → Shows accepts g i s q all → ((d : Descriptor) → Has ds d → Has all d) → AreFoundBy accepts g s q i.base number (Exact place) (Some n) ds next at m → next ≤ i.base → IsChain g i q number place ds × AreInReach g n ds
  found-chain all g i s q number place n [] next at m shows sub f low = let is = f.0 in (omega (arith, is, low), tt)
  found-chain all g i s q number place n (d ∷ ds) next at m shows sub f low =
      let more = found-chain all g i s q d.prev_number d.prev_place n ds next at m shows (λ e has. sub e (inr has)) f.2 low in
      let here = shows number (Exact place) d (sub d (inl refl)) f.1.0 in
      let place_is : d.place ≡ place = here.1 in (
        (f.0, subst (λ (x : ℕ). Holds g i q number x d) place_is here.0, more.0),
        (f.1.1, more.1),
      )

  start-chain : (g : Geometry) (i : Shown) (s : PortState) (q number index : ℕ) (ds : List Descriptor) (next : ℕ) (at : PlaceIs) (m : Option ℕ)
      → Shows accepts g i s q ds → AreFoundBy accepts g s q i.base number (Index index) None ds next at m → i.base < number → next ≤ i.base → IsShownChain g i q number index ds
  start-chain g i s q number index [] next at m shows f above low = let is = f.0 in absurd (omega (arith, is, above, low))
  start-chain g i s q number index (d ∷ ds) next at m shows f above low =
      let more = found-chain (d ∷ ds) g i s q d.prev_number d.prev_place d.place ds next at m shows (λ e has. inr has) f.2 low in
      let here = shows number (Index index) d (inl refl) f.1.0 in
      record {
        place = d.place;
        fits = here.1;
        chain = (f.0, here.0, more.0);
        reach = (f.1.1, more.1);
      }

  rest-shown : (g : Geometry) (i : Shown) (s : PortState) (q base : ℕ) (ds : List Descriptor) (r : IsReadableBy accepts g s q base ds) (place : ℕ) → IsLogSeen q base s i
      → (i.base < r.number → r.lba ≡ area_lba g q place) → IsChain g i q r.number place ds → AreInReach g place ds → IsQueueChain g i q ds
  rest-shown g i s q base ds r place seen own chain reach =
      let h = seen.head_is in
      let d = seen.doorbell_is in
      let w = r.words in
      let order = w.order in
      let few = w.few in
      let low = w.low in
      record {
        number = r.number;
        lba = r.lba;
        place = place;
        order = omega (arith, h, d, order);
        few = omega (arith, h, d, few);
        low = omega (arith, d, low);
        none = λ z. (r.newest.none (sym h ∙ z)).0;
        newest = λ some. seen.entry_is ((i.head q - 1) % depth) ∙ ap (λ (n : ℕ). says (entry_at s (n - 1))) h ∙ r.newest.some (subst (λ (n : ℕ). 0 < n) h some);
        limit = r.newest.limit;
        own = own;
        chain = chain;
        reach = reach;
        rung = λ c from to.
            let x = r.rung c (subst (λ (n : ℕ). n ≤ c) h from) (subst (λ (n : ℕ). c < n) d to) in
            (x.0, seen.entry_is (c % depth) ∙ x.1, x.2);
        rung_whole = λ some.
            let x = r.rung_whole (omega (arith, h, d, some)) in
            (x.0, x.1, seen.entry_is ((i.doorbell q - 1) % depth) ∙ ap (λ (n : ℕ). says (entry_at s (n - 1))) d ∙ x.2);
      }

  pub readable-shown-by : (g : Geometry) (i : Shown) (s : PortState) (q base : ℕ) (ds : List Descriptor) → IsLogSeen q base s i → Shows accepts g i s q ds → IsReadableBy accepts g s q base ds → IsQueueChain g i q ds
  readable-shown-by g i s q base ds seen shows r =
      let is = seen.base_is in
      elim r.chain [
        | inl x ↦
            let low : r.number ≤ i.base = let l = x.0 in omega (arith, is, l) in
            rest-shown g i s q base ds r 0 seen (λ above. absurd (omega (arith, above, low))) (subst (λ (l : List Descriptor). IsChain g i q r.number 0 l) (sym x.1) low) (subst (λ (l : List Descriptor). AreInReach g 0 l) (sym x.1) tt)
        | inr x ↦
            let above : i.base < r.number = let l = x.0 in omega (arith, is, l) in
            let low : x.3 ≤ i.base = let l = x.7 in omega (arith, is, l) in
            let found = subst (λ (n : ℕ). AreFoundBy accepts g s q n r.number (Index x.1) None ds x.3 x.4 x.5) (sym is) x.6 in
            let c = start-chain g i s q r.number x.1 ds x.3 x.4 x.5 shows found above low in
            let same : x.1 % g.area ≡ x.1 = mod-eq_of_lt x.2.1 in
            rest-shown g i s q base ds r c.place seen (λ up. x.2.0 ∙ ap (λ (n : ℕ). q * g.area + n) (same ∙ sym c.fits)) c.chain c.reach
      ]

-- ---- what is shown is found

module _ (accepts : Accepting) where
  abbrev WalksTo : (g : Geometry) (s : PortState) (q base number : ℕ) → PlaceIs → Option ℕ → List Descriptor → Type 0
  WalksTo g s q base number at newest ds = (next : ℕ) × (to : PlaceIs) × (m : Option ℕ) × AreFoundBy accepts g s q base number at newest ds next to m × (next ≤ base)

  chain-found : (all : List Descriptor) (g : Geometry) (i : Shown) (s : PortState) (q number place n : ℕ) (ds : List Descriptor) → Reads accepts g i s q all → ((d : Descriptor) → Has ds d → Has all d) → IsChain g i q number place ds → AreInReach g n ds
      → WalksTo g s q i.base number (Exact place) (Some n) ds
  chain-found all g i s q number place n [] reads sub chain reach = (number, Exact place, Some n, (refl, refl, refl), chain)
  chain-found all g i s q number place n (d ∷ ds) reads sub chain reach =
      let more = chain-found all g i s q d.prev_number d.prev_place n ds reads (λ e has. sub e (inr has)) chain.2 reach.1 in
      (more.0, more.1, more.2, (chain.0, (reads number place (Exact place) d (sub d (inl refl)) refl chain.1, reach.0), more.3), more.4)

  chain-walked : (g : Geometry) (i : Shown) (s : PortState) (q number place : ℕ) (ds : List Descriptor) → Reads accepts g i s q ds → i.base < number → IsChain g i q number place ds → AreInReach g place ds
      → WalksTo g s q i.base number (Index (place % g.area)) None ds
  chain-walked g i s q number place [] reads above chain reach = absurd (omega (arith, above, chain))
  chain-walked g i s q number place (d ∷ ds) reads above chain reach =
      let place_is : d.place ≡ place = chain.1.place_is in
      let more = chain-found (d ∷ ds) g i s q d.prev_number d.prev_place d.place ds reads (λ e has. inr has) chain.2 (subst (λ (n : ℕ). AreInReach g n ds) (sym place_is) reach.1) in
      let near : d.place < first_place d + g.area = let r = reach.0 in omega (arith, place_is, r) in
      (more.0, more.1, more.2, (chain.0, (reads number place (Index (place % g.area)) d (inl refl) refl chain.1, near), more.3), more.4)

  whole-of : (g : Geometry) (i : Shown) (s : PortState) (q base : ℕ) (ds : List Descriptor) → IsLogSeen q base s i → Reads accepts g i s q ds → (c : IsQueueChain g i q ds) → IsWholeChainBy accepts g s q base c.number c.lba ds
  whole-of g i s q base ds seen reads c =
      let is = seen.base_is in
      elim (cases_lt i.base c.number) [
        | inl above ↦
            let walk = chain-walked g i s q c.number c.place ds reads above c.chain c.reach in
            let full : 1024 ≤ g.area = g.area_low in
            let within : c.place % g.area < g.area = mod-lt c.place (omega (arith, full)) in
            let at : IsIndex g q c.lba (c.place % g.area) = (c.own above ∙ ap (λ (n : ℕ). q * g.area + n) (sym (mod-mod c.place g.area)), within) in
            let up : base < c.number = omega (arith, is, above) in
            let low : walk.0 ≤ base = let l = walk.4 in omega (arith, is, l) in
            inr (up, c.place % g.area, at, walk.0, walk.1, walk.2, subst (λ (n : ℕ). AreFoundBy accepts g s q n c.number (Index (c.place % g.area)) None ds walk.0 walk.1 walk.2) is walk.3, low)
        | inr low ↦
            let l : c.number ≤ i.base = omega (arith, low) in
            inl (omega (arith, is, l), chain-none g i q c.number c.place ds l c.chain)
      ]

  newest-of : (g : Geometry) (i : Shown) (s : PortState) (q base : ℕ) (ds : List Descriptor) → IsLogSeen q base s i → (c : IsQueueChain g i q ds) → 0 < s.head → IsNewest s c.number c.lba
  newest-of g i s q base ds seen c some =
      let h = seen.head_is in
      record {
        none = λ z. absurd (omega (arith, z, some));
        some = λ more. ap (λ (n : ℕ). says (entry_at s (n - 1))) (sym h) ∙ sym (seen.entry_is ((i.head q - 1) % depth)) ∙ c.newest (subst (λ (n : ℕ). 0 < n) (sym h) some);
        limit = c.limit;
      }

  rest-found : (g : Geometry) (i : Shown) (s : PortState) (q base : ℕ) (ds : List Descriptor) (number lba : ℕ) → IsLogSeen q base s i → IsQueueChain g i q ds
      → IsNewest s number lba → IsWholeChainBy accepts g s q base number lba ds → IsReadableBy accepts g s q base ds
  rest-found g i s q base ds number lba seen c newest whole =
      let h = seen.head_is in
      let d = seen.doorbell_is in
      let order = c.order in
      let few = c.few in
      let low = c.low in
      record {
        number = number;
        lba = lba;
        words = record { order = omega (arith, h, d, order); few = omega (arith, h, d, few); low = omega (arith, d, low) };
        newest = newest;
        chain = whole;
        rung = λ k from to.
            let x = c.rung k (subst (λ (n : ℕ). n ≤ k) (sym h) from) (subst (λ (n : ℕ). k < n) (sym d) to) in
            (x.0, sym (seen.entry_is (k % depth)) ∙ x.1, x.2);
        rung_whole = λ some.
            let x = c.rung_whole (omega (arith, h, d, some)) in
            (x.0, x.1, ap (λ (n : ℕ). says (entry_at s (n - 1))) (sym d) ∙ sym (seen.entry_is ((i.doorbell q - 1) % depth)) ∙ x.2);
      }

  pub shown-readable-by : (g : Geometry) (i : Shown) (s : PortState) (q base : ℕ) (ds : List Descriptor) → IsLogSeen q base s i → Reads accepts g i s q ds → IsQueueChain g i q ds → IsReadableBy accepts g s q base ds
  shown-readable-by g i s q base ds seen reads c = elim (cases_eq s.head 0) [
    | inl z ↦
        let none : c.number ≡ 0 = c.none (seen.head_is ∙ z) in
        let empty = chain-none g i q c.number c.place ds (omega (arith, none)) c.chain in
        rest-found g i s q base ds 0 0 seen c (record { none = λ x. (refl, refl); some = λ some. absurd (omega (arith, z, some)); limit = omega arith }) (inl (omega arith, empty))
    | inr n ↦
        let some : 0 < s.head = omega (arith, n) in
        rest-found g i s q base ds c.number c.lba seen c (newest-of g i s q base ds seen c some) (whole-of g i s q base ds seen reads c)
  ]

-- ---- the journal's descriptors

holds-of : (g : Geometry) (i : Shown) (s : PortState) (q base number : ℕ) (at : PlaceIs) (d : Descriptor) → IsSeenAt q base s i → Accepts g (expected q number at) (block_where g s at) (before_where g s at) d → Holds g i q number d.place d
holds-of g i s q base number at d seen a =
    let D : DescriptorForm → Type 0 = λ form. IsDescriptor form (write_limit g) (homes_of g) (i.area q (d.place % g.area)) (i.area q ((d.place - 1) % g.area)) d in
    let there : D journal_form = record {
      version = a.is.version;
      known = a.is.known;
      last = seen.area_is (d.place % g.area) ∙ ap (block_at s.blocks) (sym (where-fits g.area at d.place a.place)) ∙ a.is.last;
      rest = λ one.
          let size = g.area_low in
          let fits = a.is.good.fits in
          seen.area_is ((d.place - 1) % g.area) ∙ ap (block_at s.blocks) (sym (before-fits g.area at d.place (omega (arith, size)) (omega (arith, fits, one)) a.place)) ∙ a.is.rest one;
      good = a.is.good;
    } in
    record { is = subst D (sym seen.form_is) there; queue_is = a.queue; number_is = a.number; place_is = refl }

accepts-of : (g : Geometry) (i : Shown) (s : PortState) (q base number place : ℕ) (at : PlaceIs) (d : Descriptor) → IsSeenAt q base s i → PlaceFits (area_of g) at place → Holds g i q number place d
    → Accepts g (expected q number at) (block_where g s at) (before_where g s at) d
accepts-of g i s q base number place at d seen fits h =
    let D : DescriptorForm → Type 0 = λ form. IsDescriptor form (write_limit g) (homes_of g) (i.area q (place % g.area)) (i.area q ((place - 1) % g.area)) d in
    let is : D journal_form = subst D seen.form_is h.is in
    record {
      is = record {
        version = is.version;
        known = is.known;
        last = ap (block_at s.blocks) (where-fits g.area at place fits) ∙ sym (seen.area_is (place % g.area)) ∙ is.last;
        rest = λ one.
            let size = g.area_low in
            let low = is.good.fits in
            let here = h.place_is in
            ap (block_at s.blocks) (before-fits g.area at place (omega (arith, size)) (omega (arith, low, one, here)) fits) ∙ sym (seen.area_is ((place - 1) % g.area)) ∙ is.rest one;
        good = is.good;
      };
      queue = h.queue_is;
      number = h.number_is;
      place = subst (λ (n : ℕ). PlaceFits (area_of g) at n) (sym h.place_is) fits;
    }

pub readable-shown : (g : Geometry) (i : Shown) (s : PortState) (q base : ℕ) (ds : List Descriptor) → IsSeenAt q base s i → IsReadable g s q base ds → IsQueueChain g i q ds
readable-shown g i s q base ds seen r = readable-shown-by Accepts g i s q base ds (log-seen q base s i seen) (λ number at d has a. (holds-of g i s q base number at d seen a, a.place)) r

pub shown-readable : (g : Geometry) (i : Shown) (s : PortState) (q base : ℕ) (ds : List Descriptor) → IsSeenAt q base s i → IsQueueChain g i q ds → IsReadable g s q base ds
shown-readable g i s q base ds seen c = shown-readable-by Accepts g i s q base ds (log-seen q base s i seen) (λ number place at d has fits h. accepts-of g i s q base number place at d seen fits h) c

-- ---- what holds of a chain

pub chain-falls : (g : Geometry) (i : Shown) (q number place high : ℕ) (ds : List Descriptor) → IsChain g i q number place ds → number < high → AreFalling i.base high ds
chain-falls g i q number place high [] chain low = tt
chain-falls g i q number place high (d ∷ ds) chain low =
    let is = chain.1.number_is in
    let above = chain.0 in
    let falls = chain.1.is.good.falls in
    (omega (arith, is, above), omega (arith, is, low), chain-falls g i q d.prev_number d.prev_place d.number ds chain.2 falls)

-- ---- what reading gives

same-queue : (g : Geometry) (s : PortState) (q p : ℕ) → IsPortOf g (Queue q) s → s.queue ≡ Some p → q ≡ p
same-queue g s q p port is = let both : Some q ≡ Some p = sym port.queue ∙ is in cc

pub own-port : (g : Geometry) (s : PortState) (n : ℕ) → IsQueuePort g s → Queue n ≡ role_of s.queue → IsPortOf g (Queue n) s
own-port g s n own is =
    let there : Queue n ≡ Queue own.0 = is ∙ ap role_of own.2.queue in
    subst (λ (r : Role). IsPortOf g r s) (sym there) own.2

pub chain-shown : (g : Geometry) (s : PortState) (q base : ℕ) (r : Result (List Descriptor) ChainRefusal) → IsPortOf g (Queue q) s → IfOk r (IsReadable g s q base)
    → IfOk r (λ c. (p : ℕ) (i : Shown) → s.queue ≡ Some p → IsSeenAt p base s i → IsQueueChain g i p c)
chain-shown g s q base (Ok c) port ok = λ p i is seen.
    readable-shown g i s p base c seen (subst (λ (n : ℕ). IsReadable g s n base c) (same-queue g s q p port is) ok)
chain-shown g s q base (Err e) port ok = tt

pub chain-refused : (g : Geometry) (s : PortState) (q base : ℕ) (r : Result (List Descriptor) ChainRefusal) → IsPortOf g (Queue q) s → IfErr r (λ e. (e ≡ OutOfMemory) ⊎ RefusesQueue g s q base e)
    → IfErr r (λ e. (e ≡ OutOfMemory) ⊎ ((p : ℕ) → s.queue ≡ Some p → RefusesQueue g s p base e))
chain-refused g s q base (Ok c) port bad = tt
chain-refused g s q base (Err e) port bad = elim bad [
  | inl x ↦ inl x
  | inr x ↦ inr (λ p is. subst (λ (n : ℕ). RefusesQueue g s n base e) (same-queue g s q p port is) x)
]

pub chain-complete : (g : Geometry) (s : PortState) (q base : ℕ) (r : Result (List Descriptor) ChainRefusal) → IsPortOf g (Queue q) s → IfOk r (IsReadable g s q base)
    → IfErr r (λ e. (e ≡ OutOfMemory) ⊎ RefusesQueue g s q base e)
    → (p : ℕ) (i : Shown) (ds : List Descriptor) → s.queue ≡ Some p → IsSeenAt p base s i → IsQueueChain g i p ds → MatchResult r (λ c. c ≡ ds) (λ e. e ≡ OutOfMemory)
chain-complete g s q base (Ok c) port ok bad p i ds is seen shown =
    let here = subst (λ (n : ℕ). IsReadable g s n base c) (same-queue g s q p port is) ok in
    readable-once g s p base c ds here (shown-readable g i s p base ds seen shown)
chain-complete g s q base (Err e) port ok bad p i ds is seen shown = elim bad [
  | inl x ↦ x
  | inr x ↦
      let there = subst (λ (n : ℕ). RefusesQueue g s n base e) (same-queue g s q p port is) x in
      absurd (readable-refused g s p base ds e (shown-readable g i s p base ds seen shown) there)
]

pub chain-exact : (g : Geometry) (s : PortState) (q base : ℕ) (r : Result (List Descriptor) ChainRefusal) → IsPortOf g (Queue q) s → IfOk r (IsReadable g s q base)
    → IfErr r (λ e. (e ≡ OutOfMemory) ⊎ RefusesQueue g s q base e)
    → (p : ℕ) (f : ChainRefusal) → s.queue ≡ Some p → RefusesQueue g s p base f → IsErrOf r f ⊎ IsErrOf r OutOfMemory
chain-exact g s q base (Ok c) port ok bad p f is refuses =
    let here = subst (λ (n : ℕ). IsReadable g s n base c) (same-queue g s q p port is) ok in
    absurd (readable-refused g s p base c f here refuses)
chain-exact g s q base (Err e) port ok bad p f is refuses = elim bad [
  | inl x ↦ inr (ap (λ (z : ChainRefusal). Err z) x)
  | inr x ↦
      let there = subst (λ (n : ℕ). RefusesQueue g s n base e) (same-queue g s q p port is) x in
      inl (ap (λ (z : ChainRefusal). Err z) (refuses-queue-once g s p base e f there refuses))
]
