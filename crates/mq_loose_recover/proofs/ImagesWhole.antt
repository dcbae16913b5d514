-- Readable images of the loose order: what is found is what is shown.
use Rattle.std.proofs.Common.{◌≡◌, ℕ, ◌+◌, ◌-◌, ◌%◌, ◌<◌, ◌≤◌, List, [], ◌∷◌, length, Option, None, Some, refl, sym, ap, subst, ◌∙◌, inl, inr, arith}
use Rattle.std.proofs.lemmas.Bool.{cases_lt, le-ltb, lt-ltb}
use Rattle.std.specs.Option.{unwrap_or}
use Rattle.mq_area.specs.Reading.{PlaceFits, header_of}
use Rattle.mq_area.specs.declared.descriptor.Expect.{Expect}
use Rattle.mq_area.specs.declared.descriptor.PlaceIs.{PlaceIs}
use Rattle.mq_area.specs.declared.descriptor.PlaceIs.TheVariants.{Exact, Index}
use Rattle.mq_blocks.specs.Blocks.{block_at}
use Rattle.mq_blocks.specs.Descriptor.{Descriptor, DescriptorForm, IsDescriptor, IsGood, last_block}
use Rattle.mq_blocks.specs.Drive.{PortImage, PortState}
use Rattle.mq_blocks.specs.Geometry.{area_of, homes_of, write_limit}
use Rattle.mq_blocks.specs.Journal.{AreWhole, Has, Holds, IsQueueChain, IsTop, Shown}
use Rattle.mq_blocks.specs.Limits.{list_limit}
use Rattle.mq_blocks.specs.declared.geometry.Geometry.{Geometry}
use Rattle.mq_ledger.specs.State.{port_at}
use Rattle.mq_loose_order.proofs.FormSound.{few-from, loose-last}
use Rattle.mq_loose_order.specs.Form.{IsLoose, loose_bytes, loose_form, loose_limit}
use Rattle.mq_recover.proofs.DrivesImages.{view-seen}
use Rattle.mq_recover.proofs.DrivesZones.{image-at}
use Rattle.mq_recover.proofs.RecoverReadable.{IsLogSeen, Reads, Shows, readable-shown-by, shown-readable-by, where-fits}
use Rattle.mq_recover.specs.Drives.{DriveState, view_over}
use Rattle.mq_recover.specs.Queues.{IsGreatestShown}
use Rattle.mq_recover.specs.Reader.{Accepting}
use Rattle.mq_recover.specs.Refusals.{AreFoundBy, IsReadableBy, before_where, block_where, expected}
use Rattle.mq_loose_recover.proofs.ReadingOnce.{accepted-header, deps-of, further-of}
use Rattle.mq_loose_recover.proofs.ReadingSound.{version-one}
use Rattle.mq_loose_recover.specs.Choices.{IsListed, block_of}
use Rattle.mq_loose_recover.specs.Images.{AreLooselyWhole, IsReadableLooseImage, loose_view}
use Rattle.mq_loose_recover.specs.Reading.{AcceptsLoose, accepts_loose, deps_of_block}

-- ---- what a chain has was accepted

-- what is accepted of a queue, where it was expected
abbrev IsAccepted : Accepting → Geometry → PortState → ℕ → Descriptor → Type 0
IsAccepted accepts g s q x = (n : ℕ) × (p : PlaceIs) × accepts g (expected q n p) (block_where g s p) (before_where g s p) x

module _ (accepts : Accepting) (g : Geometry) (s : PortState) (q base : ℕ) (x : Descriptor) where
  found-has : (number : ℕ) (at : PlaceIs) (newest : Option ℕ) (ds : List Descriptor) (next : ℕ) (to : PlaceIs) (m : Option ℕ) → AreFoundBy accepts g s q base number at newest ds next to m → Has ds x → IsAccepted accepts g s q x
  found-has number at newest [] next to m f has = absurd has
  found-has number at newest (d ∷ ds) next to m f has = elim has [
    | inl same ↦ (number, at, subst (accepts g (expected q number at) (block_where g s at) (before_where g s at)) same f.1.0)
    | inr deeper ↦ found-has d.prev_number (Exact d.prev_place) (Some (unwrap_or newest d.place)) ds next to m f.2 deeper
  ]

  readable-has : (ds : List Descriptor) → IsReadableBy accepts g s q base ds → Has ds x → IsAccepted accepts g s q x
  readable-has ds r has = elim r.chain [
    | inl none ↦ absurd (subst (λ (l : List Descriptor). Has l x) none.1 has)
    | inr c ↦ found-has r.number (Index c.1) None ds c.3 c.4 c.5 c.6 has
  ]

-- the block where it stands
where-is : (g : Geometry) (s : PortState) (q n : ℕ) (p : PlaceIs) (x : Descriptor) (deps : List ℕ) → AcceptsLoose g (expected q n p) (block_where g s p) x deps → block_where g s p ≡ block_at s.blocks (x.place % area_of g)
where-is g s q n p x deps a = ap (block_at s.blocks) (where-fits (area_of g) p x.place a.place)

pub listed-of : (g : Geometry) (d : DriveState) (q base : ℕ) (ds : List Descriptor) (x : Descriptor) → IsReadableBy accepts_loose g (port_at d.queues q) q base ds → Has ds x → IsListed g d x
listed-of g d q base ds x r has =
    let s = port_at d.queues q in
    let found = readable-has accepts_loose g s q base x ds r has in
    let a = found.2.1 in
    record {
      deps = found.2.0;
      bytes = ap (λ (k : ℕ). block_at (port_at d.queues k).blocks (x.place % area_of g)) a.queue ∙ sym (where-is g s q found.0 found.1 x found.2.0 a) ∙ a.bytes;
      good = a.good;
      loose = a.loose;
    }

-- it is accepted where it stands
abbrev pub own_place : Descriptor → Expect
own_place x = record { queue = x.queue; number = x.number; place = Exact x.place }

pub listed-accepted : (g : Geometry) (d : DriveState) (x : Descriptor) (l : IsListed g d x) → AcceptsLoose g (own_place x) (block_of g d x) x l.deps
listed-accepted g d x l = record { bytes = l.bytes; good = l.good; loose = l.loose; queue = refl; number = refl; place = refl }

pub listed-deps : (g : Geometry) (d : DriveState) (x : Descriptor) (l : IsListed g d x) → deps_of_block (block_of g d x) ≡ l.deps
listed-deps g d x l = deps-of g (own_place x) (block_of g d x) x l.deps (listed-accepted g d x l)

pub listed-loose : (g : Geometry) (d : DriveState) (x : Descriptor) → IsListed g d x → IsLoose x (deps_of_block (block_of g d x))
listed-loose g d x l = subst (IsLoose x) (sym (listed-deps g d x l)) l.loose

-- ---- limits

-- a transaction of the loose order is not too large for any drive
limit-low : (g : Geometry) → loose_limit ≤ write_limit g
unfolding write_limit
limit-low g =
    let low = g.area_low in
    elim (cases_lt (area_of g) (list_limit + 24)) [
      | inl small ↦ rw (lt-ltb (area_of g) (list_limit + 24) small) (omega (arith, low))
      | inr large ↦ rw (le-ltb (area_of g) (list_limit + 24) large) (omega arith)
    ]

good-within : (most to homes : ℕ) (d : Descriptor) → length d.logged + length d.revoked ≤ to → IsGood most homes d → IsGood to homes d
good-within most to homes d few good = record {
  queue = good.queue;
  number = good.number;
  place = good.place;
  falls = good.falls;
  first = good.first;
  before = good.before;
  counts = few;
  fits = good.fits;
  logged = good.logged;
  revoked = good.revoked;
  apart = good.apart;
}

counts-low : (x : Descriptor) (deps : List ℕ) → IsLoose x deps → length x.logged + length x.revoked ≤ loose_limit
counts-low x deps l =
    let few = l.few in
    let none : length x.revoked ≡ 0 = ap length l.none in
    omega (arith, few, none)

-- ---- one queue

view-log : (deps : ℕ → List ℕ) (g : Geometry) (d : DriveState) (q base : ℕ) → base ≡ d.root.base → IsLogSeen q base (port_at d.queues q) (loose_view deps g d)
view-log deps g d q base is =
    let seen = view-seen g d q base is in
    record { base_is = seen.base_is; head_is = seen.head_is; doorbell_is = seen.doorbell_is; entry_is = seen.entry_is; area_is = seen.area_is }

-- the blocks of these say on what they depend
abbrev pub AreSaid : (deps : ℕ → List ℕ) (g : Geometry) (d : DriveState) → List Descriptor → Type 0
AreSaid deps g d ds = (x : Descriptor) → Has ds x → deps x.number ≡ deps_of_block (block_of g d x)

holds-of : (deps : ℕ → List ℕ) (g : Geometry) (i : Shown) (s : PortState) (q base n : ℕ) (p : PlaceIs) (x : Descriptor) (listed : List ℕ) → i.form ≡ loose_form deps → IsLogSeen q base s i → deps x.number ≡ listed → AcceptsLoose g (expected q n p) (block_where g s p) x listed
    → Holds g i q n x.place x
holds-of deps g i s q base n p x listed form seen said a =
    let loose : IsLoose x (deps x.number) = subst (IsLoose x) (sym said) a.loose in
    let none = further-of g (expected q n p) (block_where g s p) x listed a in
    let D : DescriptorForm → Type 0 = λ f. IsDescriptor f (write_limit g) (homes_of g) (i.area q (x.place % g.area)) (i.area q ((x.place - 1) % g.area)) x in
    let there : D (loose_form deps) = record {
      version = 1;
      known = inl refl;
      last =
          seen.area_is (x.place % g.area) ∙ sym (where-is g s q n p x listed a) ∙ a.bytes ∙ ap (loose_bytes x) (sym said)
          ∙ sym (loose-last deps x (few-from x loose.none loose.few) loose.deps_few);
      rest = λ one. absurd (omega (arith, one, none));
      good = good-within loose_limit (write_limit g) (homes_of g) x (let few = counts-low x (deps x.number) loose in omega (arith, few, limit-low g)) a.good;
    } in
    record { is = subst D (sym form) there; queue_is = a.queue; number_is = a.number; place_is = refl }

pub queue-shown : (deps : ℕ → List ℕ) (g : Geometry) (d : DriveState) (q : ℕ) (ds : List Descriptor) → AreSaid deps g d ds → IsReadableBy accepts_loose g (port_at d.queues q) q d.root.base ds → IsQueueChain g (loose_view deps g d) q ds
queue-shown deps g d q ds said r =
    let s = port_at d.queues q in
    let i = loose_view deps g d in
    let seen = view-log deps g d q d.root.base refl in
    let shows : Shows accepts_loose g i s q ds = λ n p x has a.
    let block : block_of g d x ≡ block_where g s p = ap (λ (k : ℕ). block_at (port_at d.queues k).blocks (x.place % area_of g)) a.1.queue ∙ sym (where-is g s q n p x a.0 a.1) in
    let listed : deps x.number ≡ a.0 = said x has ∙ ap deps_of_block block ∙ deps-of g (expected q n p) (block_where g s p) x a.0 a.1 in
    (holds-of deps g i s q d.root.base n p x a.0 refl seen listed a.1, a.1.place) in
    readable-shown-by accepts_loose g i s q d.root.base ds seen shows r

accepts-of : (deps : ℕ → List ℕ) (g : Geometry) (i : Shown) (s : PortState) (q base n place : ℕ) (p : PlaceIs) (x : Descriptor) → i.form ≡ loose_form deps → IsLogSeen q base s i → IsLoose x (deps x.number) → PlaceFits (area_of g) p place → Holds g i q n place x
    → AcceptsLoose g (expected q n p) (block_where g s p) x (deps x.number)
accepts-of deps g i s q base n place p x form seen loose fits h =
    let D : DescriptorForm → Type 0 = λ f. IsDescriptor f (write_limit g) (homes_of g) (i.area q (place % g.area)) (i.area q ((place - 1) % g.area)) x in
    let is : D (loose_form deps) = subst D form h.is in
    let version = version-one is.version is.known in
    record {
      bytes =
          ap (block_at s.blocks) (where-fits (area_of g) p place fits) ∙ sym (seen.area_is (place % g.area)) ∙ is.last ∙ ap (λ (v : ℕ). last_block (loose_form deps) v x) version
          ∙ loose-last deps x (few-from x loose.none loose.few) loose.deps_few;
      good = good-within (write_limit g) loose_limit (homes_of g) x (counts-low x (deps x.number) loose) is.good;
      loose = loose;
      queue = h.queue_is;
      number = h.number_is;
      place = subst (PlaceFits (area_of g) p) (sym h.place_is) fits;
    }

pub queue-found : (deps : ℕ → List ℕ) (g : Geometry) (d : DriveState) (q : ℕ) (ds : List Descriptor) → ((x : Descriptor) → Has ds x → IsLoose x (deps x.number)) → IsQueueChain g (loose_view deps g d) q ds → IsReadableBy accepts_loose g (port_at d.queues q) q d.root.base ds
queue-found deps g d q ds loose chain =
    let s = port_at d.queues q in
    let i = loose_view deps g d in
    let seen = view-log deps g d q d.root.base refl in
    shown-readable-by accepts_loose g i s q d.root.base ds seen (λ n place p x has fits h. (deps x.number, accepts-of deps g i s q d.root.base n place p x refl seen (loose x has) fits h)) chain

-- what is accepted as depending on these
abbrev said_by : (ℕ → List ℕ) → Accepting
said_by deps g at block before x = AcceptsLoose g at block x (deps x.number)

-- the blocks say on what the transactions of a whole image depend
pub said-of : (deps : ℕ → List ℕ) (g : Geometry) (d : DriveState) (chains : ℕ → List Descriptor) → AreLooselyWhole deps g (loose_view deps g d) chains → (q : ℕ) → q < g.queues → AreSaid deps g d (chains q)
said-of deps g d chains w q low x has =
    let s = port_at d.queues q in
    let i = loose_view deps g d in
    let seen = view-log deps g d q d.root.base refl in
    let reads : Reads (said_by deps) g i s q (chains q) = λ n place p y here fits h. accepts-of deps g i s q d.root.base n place p y refl seen (w.loose q y low here) fits h in
    let r = shown-readable-by (said_by deps) g i s q d.root.base (chains q) seen reads (w.whole.each q low) in
    let found = readable-has (said_by deps) g s q d.root.base x (chains q) r has in
    let block : block_of g d x ≡ block_where g s found.1 = ap (λ (k : ℕ). block_at (port_at d.queues k).blocks (x.place % area_of g)) found.2.queue ∙ sym (where-is g s q found.0 found.1 x (deps x.number) found.2) in
    sym (ap deps_of_block block ∙ deps-of g (expected q found.0 found.1) (block_where g s found.1) x (deps x.number) found.2)

-- ---- a drive

pub image-whole : (deps : ℕ → List ℕ) (g : Geometry) (d : DriveState) (image : IsReadableLooseImage g d) → ((q : ℕ) → q < g.queues → AreSaid deps g d (image.chains q)) → AreLooselyWhole deps g (loose_view deps g d) image.chains
image-whole deps g d image said = record {
  form_is = refl;
  whole = record {
    limit = image.limit;
    each = λ q low. queue-shown deps g d q (image.chains q) (said q low) (image.readable q low);
    once = λ q r low lower other a b in_q in_r same. elim (cases_lt q r) [
      | inl x ↦ image.once q r a.number x lower (a, in_q, refl) (b, in_r, sym same)
      | inr x ↦ image.once r q a.number (omega (arith, x, other)) low (b, in_r, sym same) (a, in_q, refl)
    ];
  };
  loose = λ q x low has. subst (IsLoose x) (sym (said q low x has)) (listed-loose g d x (listed-of g d q d.root.base (image.chains q) x (image.readable q low) has));
}

pub whole-image : (deps : ℕ → List ℕ) (g : Geometry) (d : DriveState) (chains : ℕ → List Descriptor) → AreLooselyWhole deps g (loose_view deps g d) chains → IsReadableLooseImage g d
whole-image deps g d chains w = record {
  limit = w.whole.limit;
  chains = chains;
  readable = λ q low. queue-found deps g d q (chains q) (λ x has. w.loose q x low has) (w.whole.each q low);
  once = λ q r n order low a b. w.whole.once q r (omega (arith, order, low)) low (omega (arith, order)) a.0 b.0 a.1 b.1 (a.2 ∙ sym b.2);
}

-- the greatest number that is shown, whatever the form of descriptors
pub top-of : (deps : ℕ → List ℕ) (g : Geometry) (d : DriveState) (chains : ℕ → List Descriptor) (top : ℕ) → IsGreatestShown g (view_over g d) chains top → AreWhole g (loose_view deps g d) chains → IsTop g (loose_view deps g d) chains top
top-of deps g d chains top t whole = record {
  whole = whole;
  shown = record { where_from = t.shown.where_from };
  greatest = λ n shows. t.greatest n (record { where_from = shows.where_from });
}

-- ---- the block of a descriptor

-- as the view of the drive has it
pub area-block : (g : Geometry) (d : DriveState) (x : Descriptor) → (view_over g d).area x.queue (x.place % area_of g) ≡ block_of g d x
area-block g d x = ap (λ (i : PortImage). block_at i.blocks (x.place % area_of g)) (image-at d.queues x.queue)

-- it lists few
pub listed-few : (g : Geometry) (d : DriveState) (x : Descriptor) → IsListed g d x → ((header_of (block_of g d x)).logged ≤ loose_limit) × ((header_of (block_of g d x)).revoked ≤ loose_limit)
listed-few g d x l = let h = accepted-header g (own_place x) (block_of g d x) x l.deps (listed-accepted g d x l) in (h.1.0, h.1.1)
