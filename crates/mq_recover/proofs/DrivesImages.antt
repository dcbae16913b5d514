-- Readable images: what reading finds is what is shown, and each image has one prefix and one top, or
-- one cause for which it is refused.
use Rattle.std.proofs.Common.{◌≡◌, ◌<◌, ◌≤◌, ◌⊎◌, inl, inr, ℕ, ◌+◌, ◌^◌, List, [], ◌∷◌, length, refl, sym, ◌∙◌, ap, subst, arith}
use Rattle.std.proofs.lemmas.Bool.{cases_eq, cases_lt}
use Rattle.std.specs.Prelude.{IsErrOf, Err, slice_index_or}
use Rattle.mq_ledger.proofs.Written.{form_sound}
use Rattle.mq_blocks.specs.Blocks.{block_at}
use Rattle.mq_blocks.specs.Descriptor.{Descriptor, IsReadOnce, journal_form}
use Rattle.mq_blocks.specs.Drive.{PortImage}
use Rattle.mq_blocks.specs.Geometry.{homes_of}
use Rattle.mq_blocks.specs.Journal.{Shown, IsQueueChain, Has, AreWhole, AreInRow, IsPrefix, Reaches, ShowsNumber}
use Rattle.mq_blocks.specs.declared.geometry.Geometry.{Geometry}
use Rattle.mq_nvme.specs.Says.{says}
use Rattle.mq_ledger.specs.State.{port_at}
use Rattle.mq_ledger.proofs.JournalChains.{queue-chain-once}
use Rattle.mq_recover.specs.Drives.{DriveState, view_over}
use Rattle.mq_recover.specs.Recover.{chain_at, IsSeenAt, AreFalling}
use Rattle.mq_area.specs.Reading.{Accepts, Refuses}
use Rattle.mq_recover.specs.Merges.{RefusesTwice}
use Rattle.mq_recover.specs.Queues.{AreChainsRead, RefusesReading}
use Rattle.mq_recover.specs.Choices.{run_of, IsChosen, IsFoundIn}
use Rattle.mq_recover.specs.Recovery.{IsReadPrefix}
use Rattle.mq_recover.specs.Refusals.{IsReadable}
use Rattle.mq_recover.specs.Images.{IsReadableImage, RefusesImage}
use Rattle.mq_recover.specs.declared.choice.Chosen.{Chosen}
use Rattle.mq_recover.specs.declared.choice.Found.{Found}
use Rattle.mq_recover.specs.declared.queues.QueuesRead.{QueuesRead}
use Rattle.mq_recover.specs.declared.refusal.ImageFault.{ImageFault}
use Rattle.mq_recover.specs.declared.refusal.ImageFault.TheVariants.{OutOfMemory}
use Rattle.mq_recover.proofs.Merges.{falls-under}
use Rattle.mq_recover.proofs.Choices.{run-good, run-greatest, run-has, run-row}
use Rattle.mq_recover.proofs.Readers.{journal-reader}
use Rattle.mq_recover.proofs.ReadersImages.{image-refused-by, reading-refused-by, refuses-image-once-by, twice-refused-by}
use Rattle.mq_recover.proofs.RecoverReadable.{readable-shown, shown-readable, chain-falls}
use Rattle.mq_recover.proofs.DrivesZones.{image-at}

-- ---- the view of a queue

pub view-seen : (g : Geometry) (d : DriveState) (q base : ℕ) → base ≡ d.root.base → IsSeenAt q base (port_at d.queues q) (view_over g d)
view-seen g d q base is =
    let at = image-at d.queues q in
    record {
      form_is = refl;
      base_is = sym is;
      head_is = ap (λ (i : PortImage). i.head) at;
      doorbell_is = ap (λ (i : PortImage). i.doorbell) at;
      entry_is = λ k. ap (λ (i : PortImage). says (slice_index_or i.slots k [])) at;
      area_is = λ k. ap (λ (i : PortImage). block_at i.blocks k) at;
    }

-- ---- what is found is read

queue-chain : (g : Geometry) (d : DriveState) (q : ℕ) (ds : List Descriptor) → IsReadable g (port_at d.queues q) q d.root.base ds → IsQueueChain g (view_over g d) q ds
queue-chain g d q ds readable = readable-shown g (view_over g d) (port_at d.queues q) q d.root.base ds (view-seen g d q d.root.base refl) readable

image-read : (g : Geometry) (d : DriveState) (read : QueuesRead) (base : ℕ) (c : Chosen) → base ≡ d.root.base → AreChainsRead g d read → (p : IsChosen (homes_of g) base read.chains.items c) → IsReadPrefix g (view_over g d) (run_of base p.merged) read.top
image-read g d read base c base_is all p =
    let i = view_over g d in
    let are = all.queues in
    let merged = p.are_merged in
    let count = are.count in
    let chains = chain_at read.chains.items in
    let whole : AreWhole g i chains = record {
      limit = all.limit;
      each = λ q low. queue-chain g d q (chains q) (are.readable q low);
      once = λ q r low lower other a b in_q in_r. merged.once q r (omega (arith, count, low)) (omega (arith, count, lower)) other a b in_q in_r;
    } in
    record {
      form_is = refl;
      chains = chains;
      whole = whole;
      prefix = record {
        row = subst (λ (n : ℕ). AreInRow n (run_of base p.merged)) base_is (run-row base p.merged);
        whole = λ x has. let at = merged.from_chains x (run-has base p.merged x has) in let low = at.0 in (omega (arith, count, low), at.1);
        greatest = λ q x low has same. run-greatest base (2 ^ 64) p.merged x merged.falling (merged.every q x (omega (arith, count, low)) has) (omega (arith, same, base_is));
      };
      top_is = record { whole = whole; shown = are.top.shown; greatest = are.top.greatest };
    }

pub found-in : (g : Geometry) (d : DriveState) (base : ℕ) (read : QueuesRead) (c : Chosen) (found : Found) → base ≡ d.root.base → AreChainsRead g d read → IsChosen (homes_of g) base read.chains.items c
    → found.copies.items ≡ c.copies.items → found.recovered.prefix ≡ c.prefix → found.recovered.base ≡ read.top → IsFoundIn g d found
found-in g d base read c found base_is all p items prefix_is top_is =
    let merged = p.are_merged in
    let count = all.queues.count in
    record {
      ds = run_of base p.merged;
      read = subst (IsReadPrefix g (view_over g d) (run_of base p.merged)) (sym top_is) (image-read g d read base c base_is all p);
      copies_are = record {
        own = λ x has. let at = merged.from_chains x (run-has base p.merged x has) in let low = at.0 in omega (arith, count, low);
        good = run-good (homes_of g) base p.merged merged.good;
        are = items ∙ p.copies_are;
      };
      prefix_is = prefix_is ∙ p.prefix_is;
    }

-- ---- why an image is refused

pub reading-refused : (g : Geometry) (d : DriveState) (e : ImageFault) → RefusesReading g d e → RefusesImage g d e
reading-refused = reading-refused-by Accepts Refuses journal-reader

pub twice-refused : (g : Geometry) (d : DriveState) (read : QueuesRead) (e : ImageFault) → AreChainsRead g d read → RefusesTwice read.chains.items e → RefusesImage g d e
twice-refused = twice-refused-by Accepts Refuses journal-reader

-- ---- one cause at most

-- a readable image has no cause to be refused
pub image-refused : (g : Geometry) (d : DriveState) (e : ImageFault) → IsReadableImage g d → RefusesImage g d e → ⊥
image-refused = image-refused-by Accepts Refuses journal-reader

pub refuses-image-once : (g : Geometry) (d : DriveState) (e f : ImageFault) → RefusesImage g d e → RefusesImage g d f → e ≡ f
refuses-image-once = refuses-image-once-by Accepts Refuses journal-reader

-- an image is readable exactly where its transactions are whole
pub whole-readable : (g : Geometry) (d : DriveState) (chains : ℕ → List Descriptor) → AreWhole g (view_over g d) chains → IsReadableImage g d
whole-readable g d chains whole = record {
  limit = whole.limit;
  chains = chains;
  readable = λ q low. shown-readable g (view_over g d) (port_at d.queues q) q d.root.base (chains q) (view-seen g d q d.root.base refl) (whole.each q low);
  once = λ q r n order low a b. whole.once q r (omega (arith, order, low)) low (omega (arith, order)) a.0 b.0 a.1 b.1 (a.2 ∙ sym b.2);
}

pub readable-whole : (g : Geometry) (d : DriveState) (image : IsReadableImage g d) → AreWhole g (view_over g d) image.chains
readable-whole g d image = record {
  limit = image.limit;
  each = λ q low. queue-chain g d q (image.chains q) (image.readable q low);
  once = λ q r low lower other a b in_q in_r same. elim (cases_lt q r) [
    | inl x ↦ image.once q r a.number x lower (a, in_q, refl) (b, in_r, sym same)
    | inr x ↦ image.once r q a.number (omega (arith, x, other)) low (b, in_r, sym same) (a, in_q, refl)
  ];
}

pub reaches-refused : (g : Geometry) (d : DriveState) (ds : List Descriptor) (e : ImageFault) → Reaches g (view_over g d) ds → RefusesImage g d e → ⊥
reaches-refused g d ds e read r = image-refused g d e (whole-readable g d read.chains read.whole) r

-- A readable image is refused only when the call runs out of memory.
pub memory-alone : (g : Geometry) (d : DriveState) (e : ImageFault) → (e ≡ OutOfMemory) ⊎ RefusesImage g d e → IsReadableImage g d → e ≡ OutOfMemory
memory-alone g d e given image = elim given [ inl x ↦ x | inr x ↦ absurd (image-refused g d e image x) ]

pub read-readable : (g : Geometry) (d : DriveState) (ds : List Descriptor) (top : ℕ) → IsReadPrefix g (view_over g d) ds top → IsReadableImage g d
read-readable g d ds top read = whole-readable g d read.chains read.whole

pub read-reaches : (g : Geometry) (i : Shown) (ds : List Descriptor) (top : ℕ) → IsReadPrefix g i ds top → Reaches g i ds
read-reaches g i ds top read = record { chains = read.chains; whole = read.whole; prefix = read.prefix }

-- a refusal is the one cause
pub err-exact : (A : Type 0) (g : Geometry) (d : DriveState) (f e : ImageFault) → (f ≡ OutOfMemory) ⊎ RefusesImage g d f → RefusesImage g d e → IsErrOf {T = A} (Err f) e ⊎ IsErrOf {T = A} (Err f) OutOfMemory
err-exact A g d f e given r = elim given [
  | inl x ↦ inr (ap (λ (z : ImageFault). Err z) x)
  | inr x ↦ inl (ap (λ (z : ImageFault). Err z) (refuses-image-once g d f e x r))
]

-- ---- one prefix and one top

record AreSame (g : Geometry) (chains others : ℕ → List Descriptor) : Type 0 where
  along : (q : ℕ) (d : Descriptor) → q < g.queues → Has (chains q) d → Has (others q) d

same-chains : (g : Geometry) (i : Shown) (chains others : ℕ → List Descriptor) → i.form ≡ journal_form → AreWhole g i chains → AreWhole g i others → AreSame g chains others
same-chains g i chains others form a b = record { along = λ q d low has. subst (λ (l : List Descriptor). Has l d) (queue-chain-once g i q (chains q) (others q) (subst IsReadOnce (sym form) form_sound.read) (a.each q low) (b.each q low)) has }

shows-along : (g : Geometry) (i : Shown) (chains others : ℕ → List Descriptor) (n : ℕ) → AreSame g chains others → ShowsNumber g i chains n → ShowsNumber g i others n
shows-along g i chains others n same s = elim s.where_from [
  | inl x ↦ record { where_from = inl x }
  | inr y ↦ elim y [
    | inl x ↦ record { where_from = inr (inl (x.0, x.1, x.2, same.along x.0 x.1 x.2 x.3, x.4)) }
    | inr x ↦ record { where_from = inr (inr x) }
  ]
]

-- the transaction of this number above the base
row-has : (base : ℕ) (ds : List Descriptor) (n : ℕ) → AreInRow base ds → base < n → n ≤ base + length ds → (d : Descriptor) × Has ds d × (d.number ≡ n)
row-has base [] n row above low = absurd (omega (arith, above, low))
row-has base (d ∷ ds) n row above low = elim (cases_eq d.number n) [
  | inl same ↦ (d, inl refl, same)
  | inr other ↦
      let is = row.0 in
      let more = row-has base ds n row.1 above (omega (arith, is, other, low)) in
      (more.0, inr more.1, more.2)
]

-- no list is the longer
row-short : (g : Geometry) (i : Shown) (chains others : ℕ → List Descriptor) (ds es : List Descriptor) → AreSame g others chains → IsPrefix g i chains ds → IsPrefix g i others es → length ds < length es → ⊥
row-short g i chains others ds es same p q low =
    let one = row-has i.base es (i.base + length ds + 1) q.row (omega arith) (omega (arith, low)) in
    let at = q.whole one.0 one.1 in
    p.greatest one.0.queue one.0 at.0 (same.along one.0.queue one.0 at.0 at.1) one.2

falls-once : (low high : ℕ) (ds : List Descriptor) (d e : Descriptor) → AreFalling low high ds → Has ds d → Has ds e → d.number ≡ e.number → d ≡ e
falls-once low high [] d e falls a b same = absurd a
falls-once low high (x ∷ xs) d e falls a b same = elim a [
  | inl h ↦ elim b [
    | inl k ↦ sym h ∙ k
    | inr k ↦ let u = falls-under low x.number xs e falls.2 k in let is : x.number ≡ d.number = ap (λ (y : Descriptor). y.number) h in absurd (omega (arith, u, is, same))
  ]
  | inr h ↦ elim b [
    | inl k ↦ let u = falls-under low x.number xs d falls.2 h in let is : x.number ≡ e.number = ap (λ (y : Descriptor). y.number) k in absurd (omega (arith, u, is, same))
    | inr k ↦ falls-once low x.number xs d e falls.2 h k same
  ]
]

-- two transactions of one number that are whole are one
number-once : (g : Geometry) (i : Shown) (chains : ℕ → List Descriptor) (d e : Descriptor) → AreWhole g i chains → (d.queue < g.queues) × Has (chains d.queue) d → (e.queue < g.queues) × Has (chains e.queue) e → d.number ≡ e.number → d ≡ e
number-once g i chains d e whole a b same = elim (cases_eq d.queue e.queue) [
  | inl at ↦
      let c = whole.each d.queue a.0 in
      let number = c.limit in
      falls-once i.base (2 ^ 64) (chains d.queue) d e (chain-falls g i d.queue c.number c.place (2 ^ 64) (chains d.queue) c.chain (omega (arith, number))) a.1
      (subst (λ (q : ℕ). Has (chains q) e) (sym at) b.1) same
  | inr apart ↦ absurd (whole.once d.queue e.queue a.0 b.0 apart d e a.1 b.1 same)
]

rows-same : (base : ℕ) (ds es : List Descriptor) → AreInRow base ds → AreInRow base es → length ds ≡ length es → ((d e : Descriptor) → Has ds d → Has es e → d.number ≡ e.number → d ≡ e) → ds ≡ es
rows-same base [] [] a b long once = refl
rows-same base [] (e ∷ es) a b long once = absurd (omega (arith, long))
rows-same base (d ∷ ds) [] a b long once = absurd (omega (arith, long))
rows-same base (d ∷ ds) (e ∷ es) a b long once =
    let x = a.0 in
    let y = b.0 in
    let head = once d e (inl refl) (inl refl) (omega (arith, x, y, long)) in
    let tail = rows-same base ds es a.1 b.1 (omega (arith, long)) (λ u v p q. once u v (inr p) (inr q)) in
    λ k. head k ∷ tail k

-- An image has one prefix.
pub reaches-same : (g : Geometry) (i : Shown) (ds es : List Descriptor) → i.form ≡ journal_form → Reaches g i ds → Reaches g i es → ds ≡ es
reaches-same g i ds es form a b =
    let there = same-chains g i a.chains b.chains form a.whole b.whole in
    let back = same-chains g i b.chains a.chains form b.whole a.whole in
    let long : length ds ≡ length es = elim (cases_lt (length ds) (length es)) [
      | inl low ↦ absurd (row-short g i a.chains b.chains ds es back a.prefix b.prefix low)
      | inr high ↦ elim (cases_lt (length es) (length ds)) [
        | inl low ↦ absurd (row-short g i b.chains a.chains es ds there b.prefix a.prefix low)
        | inr low ↦ omega (arith, high, low)
      ]
    ] in
    rows-same i.base ds es a.prefix.row b.prefix.row long (λ d e p q.
    let at = b.prefix.whole e q in
    number-once g i a.chains d e a.whole (a.prefix.whole d p) (at.0, back.along e.queue e at.0 at.1))

-- An image has one top.
pub read-same : (g : Geometry) (i : Shown) (ds es : List Descriptor) (top other : ℕ) → IsReadPrefix g i ds top → IsReadPrefix g i es other → (ds ≡ es) × (top ≡ other)
read-same g i ds es top other a b =
    let there = same-chains g i a.chains b.chains a.form_is a.whole b.whole in
    let back = same-chains g i b.chains a.chains a.form_is b.whole a.whole in
    let x = b.top_is.greatest top (shows-along g i a.chains b.chains top there a.top_is.shown) in
    let y = a.top_is.greatest other (shows-along g i b.chains a.chains other back b.top_is.shown) in (
      reaches-same g i ds es a.form_is (read-reaches g i ds top a) (read-reaches g i es other b),
      omega (arith, x, y),
    )
