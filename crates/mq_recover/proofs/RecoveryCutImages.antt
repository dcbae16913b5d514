-- What an image reads as while a recovery is under way.
use Rattle.std.proofs.Common.{◌≡◌, ◌<◌, ◌≤◌, ◌⊎◌, inl, inr, ⊎_elim, ℕ, ◌+◌, ◌-◌, ◌%◌, List, [], ◌∷◌, length, true, Option, Some, None, refl, sym, ◌∙◌, ap, subst, arith}
use Rattle.std.proofs.lemmas.Bool.{cases_lt}
use Rattle.mq_blocks.specs.Geometry.{homes_of, write_limit}
use Rattle.mq_blocks.specs.Descriptor.{Descriptor, DescriptorForm, IsDescriptor}
use Rattle.mq_blocks.specs.Limits.{depth}
use Rattle.mq_blocks.specs.Journal.{WriteFields, Shown, IsChain, IsQueueChain, AreWhole, AreInRow, Has, ShowsNumber, IsTop, number_limit, or_else, stands}
use Rattle.mq_blocks.specs.declared.geometry.Geometry.{Geometry}
use Rattle.mq_blocks.proofs.GeometryAddresses.{in_area}
use Rattle.mq_ledger.proofs.JournalChains.{said-once}
use Rattle.mq_recover.specs.Recovery.{IsReadPrefix}
use Rattle.mq_recover.specs.Copies.{IsCopyPlaceOf, copy_of, content_of}
use Rattle.mq_recover.specs.declared.copies.CopyPlace.{CopyPlace}
use Rattle.mq_recover.proofs.Merges.{falls-under}
use Rattle.mq_recover.proofs.RecoverReadable.{chain-falls}
use Rattle.mq_recover.proofs.RecoverCopies.{copy-within, stands-copy}

-- the same form, and the same doorbells, entries and areas of the queues
pub record IsSameLog (g : Geometry) (v i : Shown) : Type 0 where
  pub form : i.form ≡ v.form
  pub doorbell : (q : ℕ) → q < g.queues → i.doorbell q ≡ v.doorbell q
  pub entry : (q k : ℕ) → q < g.queues → i.entry q k ≡ v.entry q k
  pub area : (q k : ℕ) → q < g.queues → k < g.area → i.area q k ≡ v.area q k

-- each head is the same
abbrev pub AreSameHeads : Geometry → (v i : Shown) → Type 0
AreSameHeads g v i = (q : ℕ) → q < g.queues → i.head q ≡ v.head q

-- each head is the same, or at its doorbell
abbrev pub AreMovedHeads : Geometry → (v i : Shown) → Type 0
AreMovedHeads g v i = (q : ℕ) → q < g.queues → (i.head q ≡ v.head q) ⊎ (i.head q ≡ v.doorbell q)

-- ---- over the old base

chain-along : (g : Geometry) (v i : Shown) (q number place : ℕ) (ds : List Descriptor) → q < g.queues → IsSameLog g v i → i.base ≡ v.base → IsChain g v q number place ds → IsChain g i q number place ds
chain-along g v i q number place [] own same base chain = omega arith
chain-along g v i q number place (d ∷ ds) own same base chain =
    let above = chain.0 in
    let holds = chain.1 in
    let D : DescriptorForm → Type 0 = λ form. IsDescriptor form (write_limit g) (homes_of g) (i.area q (place % g.area)) (i.area q ((place - 1) % g.area)) d in
    let there : D v.form = record {
      version = holds.is.version;
      known = holds.is.known;
      last = same.area q (place % g.area) own (in_area g place) ∙ holds.is.last;
      rest = λ one. same.area q ((place - 1) % g.area) own (in_area g (place - 1)) ∙ holds.is.rest one;
      good = holds.is.good;
    } in (
      omega arith,
      record { is = subst D (sym same.form) there; queue_is = holds.queue_is; number_is = holds.number_is; place_is = holds.place_is },
      chain-along g v i q d.prev_number d.prev_place ds own same base chain.2,
    )

entry-along : (g : Geometry) (v i : Shown) (q n m : ℕ) → q < g.queues → IsSameLog g v i → n ≡ m → i.entry q ((n - 1) % depth) ≡ v.entry q ((m - 1) % depth)
entry-along g v i q n m own same is = same.entry q ((n - 1) % depth) own ∙ ap (λ (k : ℕ). v.entry q ((k - 1) % depth)) is

queue-along : (g : Geometry) (v i : Shown) (q : ℕ) (ds : List Descriptor) → q < g.queues → IsSameLog g v i → i.base ≡ v.base → i.head q ≡ v.head q → IsQueueChain g v q ds → IsQueueChain g i q ds
queue-along g v i q ds own same base head chain =
    let bell = same.doorbell q own in
    let order = chain.order in
    let few = chain.few in
    let low = chain.low in
    record {
      number = chain.number;
      lba = chain.lba;
      place = chain.place;
      order = omega arith;
      few = omega arith;
      low = omega arith;
      none = λ zero_is. chain.none (sym head ∙ zero_is);
      newest = λ some. entry-along g v i q (i.head q) (v.head q) own same head ∙ chain.newest (omega arith);
      limit = chain.limit;
      own = λ above. chain.own (omega arith);
      chain = chain-along g v i q chain.number chain.place ds own same base chain.chain;
      reach = chain.reach;
      rung = λ c from to. let r = chain.rung c (omega arith) (omega arith) in (r.0, same.entry q (c % depth) own ∙ r.1, r.2);
      rung_whole = λ some. let r = chain.rung_whole (omega arith) in (r.0, r.1, entry-along g v i q (i.doorbell q) (v.doorbell q) own same bell ∙ r.2);
    }

whole-along : (g : Geometry) (v i : Shown) (chains : ℕ → List Descriptor) → IsSameLog g v i → i.base ≡ v.base → AreSameHeads g v i → AreWhole g v chains → AreWhole g i chains
whole-along g v i chains same base head whole =
    let limit = whole.limit in
    record {
      limit = omega arith;
      each = λ q own. queue-along g v i q (chains q) own same base (head q own) (whole.each q own);
      once = whole.once;
    }

shown-along : (g : Geometry) (v i : Shown) (chains : ℕ → List Descriptor) (n : ℕ) → v.base ≡ i.base → AreSameHeads g i v → ((q : ℕ) → q < g.queues → v.doorbell q ≡ i.doorbell q) → ((q k : ℕ) → q < g.queues → v.entry q k ≡ i.entry q k)
    → ShowsNumber g v chains n → ShowsNumber g i chains n
shown-along g v i chains n base head bell entry shows = ⊎_elim
    (λ is. record { where_from = inl (is ∙ base) })
    (λ more. ⊎_elim
    (λ has. record { where_from = inr (inl has) })
    (λ r.
    let own = r.3 in
    let head_is = head r.0 own in
    let bell_is = bell r.0 own in
    let from = r.4 in
    let to = r.5 in
    record { where_from = inr (inr (r.0, r.1, r.2, own, omega arith, omega arith, sym (entry r.0 (r.1 % depth) own) ∙ r.6, r.7)) })
    more)
    shows.where_from

-- where the words are as before, the chains and the greatest number are the same
pub top-along : (g : Geometry) (v i : Shown) (chains : ℕ → List Descriptor) (top : ℕ) → IsSameLog g v i → i.base ≡ v.base → AreSameHeads g v i → IsTop g v chains top → IsTop g i chains top
top-along g v i chains top same base head t = record {
  whole = whole-along g v i chains same base head t.whole;
  shown = shown-along g v i chains top (sym base) (λ q own. sym (head q own)) (λ q own. sym (same.doorbell q own)) (λ q k own. sym (same.entry q k own)) t.shown;
  greatest = λ n shows. t.greatest n (shown-along g i v chains n base head same.doorbell same.entry shows);
}

-- and the same is read
pub read-along : (g : Geometry) (v i : Shown) (ds : List Descriptor) (top : ℕ) → IsSameLog g v i → i.base ≡ v.base → AreSameHeads g v i → IsReadPrefix g v ds top → IsReadPrefix g i ds top
read-along g v i ds top same base head read =
    let prefix = read.prefix in
    record {
      form_is = same.form ∙ read.form_is;
      chains = read.chains;
      whole = whole-along g v i read.chains same base head read.whole;
      prefix = record {
        row = subst (λ (b : ℕ). AreInRow b ds) (sym base) prefix.row;
        whole = prefix.whole;
        greatest = λ q d low has is. prefix.greatest q d low has (is ∙ ap (λ (b : ℕ). b + length ds + 1) base);
      };
      top_is = top-along g v i read.chains top same base head read.top_is;
    }

-- ---- over the greatest number

-- the newest number of a chain is the base's or below, or it is shown
pub newest-low : (g : Geometry) (v : Shown) (chains : ℕ → List Descriptor) (top q number place : ℕ) (ds : List Descriptor) → q < g.queues → IsTop g v chains top → chains q ≡ ds → IsChain g v q number place ds → number ≤ top
newest-low g v chains top q number place [] own t is chain =
    let base_low = t.greatest v.base (record { where_from = inl refl }) in
    omega arith
newest-low g v chains top q number place (d ∷ ds) own t is chain =
    let has : Has (chains q) d = subst (λ (l : List Descriptor). Has l d) (sym is) (inl refl) in
    t.greatest number (record { where_from = inr (inl (q, d, own, has, chain.1.number_is)) })

-- an entry from head to doorbell is within the limit
rung-low : (g : Geometry) (v : Shown) (q : ℕ) (ds : List Descriptor) (c : ℕ) (s : WriteFields) → IsQueueChain g v q ds → v.head q ≤ c → c < v.doorbell q → v.entry q (c % depth) ≡ Some s → s.0 ≤ number_limit
rung-low g v q ds c s chain from to is =
    let r = chain.rung c from to in
    let same : s.0 ≡ r.0.0 = ap (λ (x : WriteFields). x.0) (said-once (v.entry q (c % depth)) s r.0 is r.1) in
    let low = r.2 in
    omega arith

pub top-low : (g : Geometry) (v : Shown) (chains : ℕ → List Descriptor) (top : ℕ) → IsTop g v chains top → top ≤ number_limit
top-low g v chains top t = ⊎_elim
    (λ is. let limit = t.whole.limit in omega arith)
    (λ more. ⊎_elim
    (λ has.
    let chain = t.whole.each has.0 has.2 in
    let falling = chain-falls g v has.0 chain.number chain.place (chain.number + 1) (chains has.0) chain.chain (omega arith) in
    let low = falls-under v.base (chain.number + 1) (chains has.0) has.1 falling has.3 in
    let limit = chain.limit in
    let number = has.4 in
    omega arith)
    (λ r.
    let low = rung-low g v r.0 (chains r.0) r.1 r.2 (t.whole.each r.0 r.3) r.4 r.5 r.6 in
    let number = r.7 in
    omega arith)
    more)
    t.shown.where_from

-- a queue whose head is as before has an empty chain over the greatest number
raised-still : (g : Geometry) (v i : Shown) (q : ℕ) (ds : List Descriptor) (top : ℕ) → q < g.queues → IsSameLog g v i → i.base ≡ top → i.head q ≡ v.head q → (chain : IsQueueChain g v q ds) → chain.number ≤ top → IsQueueChain g i q []
raised-still g v i q ds top own same base head chain low_top =
    let bell = same.doorbell q own in
    let order = chain.order in
    let few = chain.few in
    let low = chain.low in
    record {
      number = chain.number;
      lba = chain.lba;
      place = chain.place;
      order = omega arith;
      few = omega arith;
      low = omega arith;
      none = λ zero_is. chain.none (sym head ∙ zero_is);
      newest = λ some. entry-along g v i q (i.head q) (v.head q) own same head ∙ chain.newest (omega arith);
      limit = chain.limit;
      own = λ above. absurd (omega arith);
      chain = omega arith;
      reach = tt;
      rung = λ c from to. let r = chain.rung c (omega arith) (omega arith) in (r.0, same.entry q (c % depth) own ∙ r.1, r.2);
      rung_whole = λ some. let r = chain.rung_whole (omega arith) in (r.0, r.1, entry-along g v i q (i.doorbell q) (v.doorbell q) own same bell ∙ r.2);
    }

-- so has one whose head went to the doorbell past some entry
raised-moved : (g : Geometry) (v i : Shown) (q : ℕ) (ds : List Descriptor) (chains : ℕ → List Descriptor) (top : ℕ) → q < g.queues → IsSameLog g v i → i.base ≡ top → i.head q ≡ v.doorbell q → v.head q < v.doorbell q
    → IsTop g v chains top → IsQueueChain g v q ds → IsQueueChain g i q []
raised-moved g v i q ds chains top own same base head some t chain =
    let bell = same.doorbell q own in
    let low = chain.low in
    let last = chain.rung_whole some in
    let low_top = t.greatest last.0 (record { where_from = inr (inr (q, v.doorbell q - 1, (last.0, last.1, true), own, omega arith, omega arith, last.2, refl)) }) in
    record {
      number = last.0;
      lba = last.1;
      place = 0;
      order = omega arith;
      few = omega arith;
      low = omega arith;
      none = λ zero_is. absurd (omega arith);
      newest = λ above. entry-along g v i q (i.head q) (v.doorbell q) own same head ∙ last.2;
      limit = rung-low g v q ds (v.doorbell q - 1) (last.0, last.1, true) chain (omega arith) (omega arith) last.2;
      own = λ above. absurd (omega arith);
      chain = omega arith;
      reach = tt;
      rung = λ c from to. absurd (omega arith);
      rung_whole = λ above. absurd (omega arith);
    }

raised-queue : (g : Geometry) (v i : Shown) (q : ℕ) (chains : ℕ → List Descriptor) (top : ℕ) → q < g.queues → IsSameLog g v i → i.base ≡ top → AreMovedHeads g v i → IsTop g v chains top → IsQueueChain g i q []
raised-queue g v i q chains top own same base head t =
    let chain = t.whole.each q own in
    let low_top = newest-low g v chains top q chain.number chain.place (chains q) own t refl chain.chain in
    ⊎_elim
    (λ still. raised-still g v i q (chains q) top own same base still chain low_top)
    (λ moved. ⊎_elim
    (λ some. raised-moved g v i q (chains q) chains top own same base moved some t chain)
    (λ none.
    let order = chain.order in
    raised-still g v i q (chains q) top own same base (omega arith) chain low_top)
    (cases_lt (v.head q) (v.doorbell q)))
    (head q own)

-- no image shows a greater number then
shown-low : (g : Geometry) (v i : Shown) (chains : ℕ → List Descriptor) (top n : ℕ) → IsSameLog g v i → i.base ≡ top → AreMovedHeads g v i → IsTop g v chains top → ShowsNumber g i (λ q. []) n → n ≤ top
shown-low g v i chains top n same base head t shows = ⊎_elim
    (λ is. omega arith)
    (λ more. ⊎_elim
    (λ has. absurd has.3)
    (λ r.
    let own = r.3 in
    let from = r.4 in
    let to = r.5 in
    let bell = same.doorbell r.0 own in
    let order = (t.whole.each r.0 own).order in
    let low : v.head r.0 ≤ r.1 = ⊎_elim (λ still. omega arith) (λ moved. omega arith) (head r.0 own) in
    t.greatest n (record { where_from = inr (inr (r.0, r.1, r.2, own, low, omega arith, sym (same.entry r.0 (r.1 % depth) own) ∙ r.6, r.7)) }))
    more)
    shows.where_from

-- over the greatest number no chain has any
pub top-raised : (g : Geometry) (v i : Shown) (chains : ℕ → List Descriptor) (top : ℕ) → IsSameLog g v i → i.base ≡ top → AreMovedHeads g v i → IsTop g v chains top → IsTop g i (λ q. []) top
top-raised g v i chains top same base head t =
    let limit = top-low g v chains top t in
    record {
      whole = record {
        limit = omega arith;
        each = λ q own. raised-queue g v i q chains top own same base head t;
        once = λ q r p s other d e has. absurd has;
      };
      shown = record { where_from = inl (sym base) };
      greatest = λ n shows. shown-low g v i chains top n same base head t shows;
    }

-- and nothing is left to bring home
pub read-raised : (g : Geometry) (v i : Shown) (ds : List Descriptor) (top : ℕ) → IsSameLog g v i → i.base ≡ top → AreMovedHeads g v i → IsReadPrefix g v ds top → IsReadPrefix g i [] top
read-raised g v i ds top same base head read =
    let t = top-raised g v i read.chains top same base head read.top_is in
    record {
      form_is = same.form ∙ read.form_is;
      chains = λ q. [];
      whole = t.whole;
      prefix = record { row = tt; whole = λ d has. absurd has; greatest = λ q d low has. absurd has };
      top_is = t;
    }

-- ---- what stands

content-along : (g : Geometry) (v i : Shown) (o : Option CopyPlace) (old new : List ℕ) → IsSameLog g v i → IsCopyPlaceOf g.queues o → (o ≡ None → new ≡ old) → or_else (content_of i.area g.area o) new ≡ or_else (content_of v.area g.area o) old
content-along g v i None old new same own kept = kept refl
content-along g v i (Some source) old new same own kept = same.area source.queue (source.place % g.area) own (in_area g source.place)

-- a block that has a copy stands whatever is at home
pub stands-along : (g : Geometry) (v i : Shown) (ds : List Descriptor) (x : ℕ) → ((d : Descriptor) → Has ds d → d.queue < g.queues) → IsSameLog g v i → (copy_of ds x ≡ None → i.home x ≡ v.home x) → stands g i ds x ≡ stands g v ds x
stands-along g v i ds x own same kept =
    stands-copy g i ds x
    ∙ content-along g v i (copy_of ds x) (v.home x) (i.home x) same (copy-within g.queues ds x own) kept
    ∙ sym (stands-copy g v ds x)
