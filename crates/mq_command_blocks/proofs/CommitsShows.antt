-- What each image of a port shows that keeps some transactions.
use Rattle.std.proofs.Common.{◌≡◌, ◌≢◌, ◌<◌, ◌≤◌, ◌⊎◌, inl, inr, ⊎_elim, ℕ, ◌+◌, ◌-◌, ◌%◌, ◌^◌, Bool, true, false, cond, List, [], ◌∷◌, length, get_or, Option, Some, None, refl, sym, ◌∙◌, ap, subst, arith}
use Rattle.std.proofs.lemmas.Bool.{cases_eq}
use Rattle.std.proofs.lemmas.Nat.{mod_below}
use Rattle.mq_nvme.specs.Says.{says, journal_reading}
use Rattle.mq_blocks.specs.Descriptor.{Descriptor, first_place}
use Rattle.mq_blocks.specs.Limits.{depth, usable_depth}
use Rattle.mq_blocks.specs.Drive.{PortState, PortImage, IsImage, IsFlushed, index_of}
use Rattle.mq_blocks.specs.Geometry.{area_lba}
use Rattle.mq_blocks.specs.Journal.{Shown, WriteFields, shown, number_limit, IsChain, AreInReach, IsQueueChain, Has, AreWhole, AreInRow, IsPrefix, logged_copy, is_among, or_else, stands}
use Rattle.mq_blocks.specs.Machine.{Map, Transaction, write_of, or_kept, after, after_all}
use Rattle.mq_blocks.specs.declared.geometry.Geometry.{Geometry}
use Rattle.mq_drive.specs.Start.{IsPortOf}
use Rattle.mq_drive.specs.declared.role.Role.TheVariants.{Queue}
use Rattle.mq_block_trace.specs.Lines.{empty_map}
use Rattle.mq_command_blocks.specs.Commits.{Agrees, Carries, AllCarry, Keeps, ShowsMap}
use Rattle.mq_command_blocks.specs.Cuts.{IsEarly}
use Rattle.mq_pmr.specs.Runs.{Items}
use Rattle.mq_command_blocks.specs.Runs.{IsNewIn}

-- ---- of descriptors

queue_of_chain : (g : Geometry) (i : Shown) (q number place : ℕ) (ds : List Descriptor) → IsChain g i q number place ds → (d : Descriptor) → Has ds d → d.queue ≡ q
queue_of_chain g i q number place [] chain d has = absurd has
queue_of_chain g i q number place (e ∷ ds) chain d has = ⊎_elim
    (λ same. ap (λ (x : Descriptor). x.queue) (sym same) ∙ chain.1.queue_is)
    (λ later. queue_of_chain g i q e.prev_number e.prev_place ds chain.2 d later)
    has

number_in_row : (base : ℕ) (ds : List Descriptor) → AreInRow base ds → (d : Descriptor) → Has ds d → d.number ≤ base + length ds
number_in_row base [] row d has = absurd has
number_in_row base (e ∷ ds) row d has = ⊎_elim
    (λ same. let is : e.number ≡ base + length ds + 1 = row.0 in let number : d.number ≡ e.number = ap (λ (x : Descriptor). x.number) (sym same) in omega arith)
    (λ later. omega (arith, number_in_row base ds row.1 d later))
    has

-- within one lap nothing is out of reach
in_reach : (g : Geometry) (newest : ℕ) (ds : List Descriptor) → newest < g.area → AreInReach g newest ds
in_reach g newest [] less = tt
in_reach g newest (d ∷ ds) less = (omega arith, in_reach g newest ds less)

-- ---- of contents

stands_after : (g : Geometry) (i : Shown) (d : Descriptor) (ds : List Descriptor) (t : Transaction) (m : Map) (b : ℕ) (v : List ℕ) → Carries g i d t
    → ((w : List ℕ) → m b ≡ Some w → stands g i ds b ≡ w) → after m t b ≡ Some v → stands g i (d ∷ ds) b ≡ v
unfolding after
stands_after g i d ds t m b v carries older is = by (write_of t.writes b) (carries.copies b) is
  where
    none : (f : Bool) → cond f None (m b) ≡ Some v → or_else None (cond (is_among b []) (i.home b) (stands g i ds b)) ≡ v
    none true is = cc
    none false is = older v is

    by : (w : Option (List ℕ)) → logged_copy (i.area d.queue) g.area (first_place d) d.logged b ≡ w → or_kept w (cond (is_among b t.freed) None (m b)) ≡ Some v
        → or_else (logged_copy (i.area d.queue) g.area (first_place d) d.logged b) (cond (is_among b d.revoked) (i.home b) (stands g i ds b)) ≡ v
    by (Some w) copy is = let same : w ≡ v = cc in ap (λ (o : Option (List ℕ)). or_else o (cond (is_among b d.revoked) (i.home b) (stands g i ds b))) copy ∙ same
    by None copy is =
        (λ k. or_else (copy k) (cond (is_among b (carries.revoked k)) (i.home b) (stands g i ds b))) ∙ none (is_among b t.freed) is

pub stands_all : (g : Geometry) (i : Shown) (ds : List Descriptor) (ts : List Transaction) (b : ℕ) (v : List ℕ) → AllCarry g i ds ts → after_all empty_map ts b ≡ Some v → stands g i ds b ≡ v
stands_all g i [] [] b v carry is = cc
stands_all g i [] (t ∷ ts) b v carry is = absurd carry
stands_all g i (d ∷ ds) [] b v carry is = absurd carry
stands_all g i (d ∷ ds) (t ∷ ts) b v carry is =
    stands_after g i d ds t (after_all empty_map ts) b v carry.0 (λ w older. stands_all g i ds ts b w carry.1 older) is

-- ---- of images

-- what the entries from the head to the doorbell say
pub record AreReadable (s new : PortState) : Type 0 where
  pub order : s.head ≤ new.doorbell
  pub few : new.doorbell ≤ s.head + usable_depth
  pub low : new.doorbell ≤ number_limit
  pub flushed : (c : ℕ) → s.head ≤ c → c < new.doorbell → IsFlushed new (c % depth)
  pub each : (c : ℕ) → s.head ≤ c → c < new.doorbell → (e : WriteFields) × (says (get_or new.flushed (c % depth) []) ≡ Some e) × (e.0 ≤ number_limit)
  pub last : s.head < new.doorbell → (n : ℕ) × (l : ℕ) × (says (get_or new.flushed ((new.doorbell - 1) % depth) []) ≡ Some (n, l, true))

-- A port that keeps some transactions, and what it is in the middle of the next.
module _ (g : Geometry) (s new : PortState) (next place : ℕ) (ds : List Descriptor) (ts : List Transaction) (keeps : Keeps g s next place ds ts) (one : g.queues ≡ 1)
    (fits : next ≤ g.area) (few : length ds ≤ 2 ^ 62) (tx : ℕ) (items : Items) (early : IsEarly s new tx items) (port : IsPortOf g (Queue 0) new) (readable : AreReadable s new)
    (fresh : (k : ℕ) → k < next → IsNewIn (index_of s) k items) (q r : PortImage) (image : IsImage new q) (base : r.base ≡ 0) where
  abbrev i : Shown
  i = shown journal_reading g (q ∷ []) r

  agrees : Agrees next s i
  agrees = record {
    form = refl;
    base = base;
    area = λ k less.
        let old = keeps.port.blocks in
        let long = port.blocks in
        let certain = keeps.port.certain in
        image.blocks k (omega arith) (early.certain k (omega arith) (fresh k less)) ∙ early.blocks k (fresh k less);
  }

  head : q.head ≡ s.head
  head = ⊎_elim (λ same. same ∙ early.head) (λ stored. stored ∙ early.stored) image.head

  slot_same : (k : ℕ) → k < depth → IsFlushed new k → get_or q.slots k [] ≡ get_or new.flushed k []
  slot_same k within flushed = image.slots k (let ring = port.flushed in omega arith) flushed

  slot_before : 0 < s.head → get_or q.slots ((q.head - 1) % depth) [] ≡ get_or s.flushed ((s.head - 1) % depth) []
  slot_before some =
      ap (λ (n : ℕ). get_or q.slots ((n - 1) % depth) []) head
      ∙ slot_same ((s.head - 1) % depth) (mod_below (s.head - 1) depth (omega arith)) (early.slot_flushed some)
      ∙ early.slot some

  reach : AreInReach g place ds
  reach = of ds keeps.below
    where
      of : (es : List Descriptor) → (0 < length es → place < next) → AreInReach g place es
      of [] below = tt
      of (e ∷ es) below = in_reach g place (e ∷ es) (let low : place < next = below (omega arith) in omega arith)

  rung_entry : (c : ℕ) → q.head ≤ c → c < q.doorbell → (e : WriteFields) × (says (get_or q.slots (c % depth) []) ≡ Some e) × (e.0 ≤ number_limit)
  rung_entry c low high =
      let from : s.head ≤ c = let h = head in omega arith in
      let below : c < new.doorbell = let bell = image.doorbell in omega arith in
      let entry = readable.each c from below in
      (entry.0, ap says (slot_same (c % depth) (mod_below c depth (omega arith)) (readable.flushed c from below)) ∙ entry.1, entry.2)

  rung_last : q.head < q.doorbell → (n : ℕ) × (l : ℕ) × (says (get_or q.slots ((q.doorbell - 1) % depth) []) ≡ Some (n, l, true))
  rung_last more =
      let some : s.head < new.doorbell = let h = head in let bell = image.doorbell in omega arith in
      let last = readable.last some in (
        last.0,
        last.1,
        ap (λ (n : ℕ). says (get_or q.slots ((n - 1) % depth) [])) image.doorbell
            ∙ ap says (slot_same ((new.doorbell - 1) % depth) (mod_below (new.doorbell - 1) depth (omega arith)) (readable.flushed (new.doorbell - 1) (omega arith) (omega arith)))
            ∙ last.2,
      )

  some_chain : (l : ℕ) → (0 < q.head → says (get_or q.slots ((q.head - 1) % depth) []) ≡ Some (length ds, l, true)) → (0 < length ds → l ≡ area_lba g 0 place) → IsQueueChain g i 0 ds
  some_chain l newest own = record {
    number = length ds;
    lba = l;
    place = place;
    order = let h = head in let bell = image.doorbell in let order = readable.order in omega arith;
    few = let h = head in let bell = image.doorbell in let few = readable.few in omega arith;
    low = let bell = image.doorbell in let low = readable.low in omega arith;
    none = λ none. keeps.none (sym head ∙ none);
    newest = newest;
    limit = omega arith;
    own = λ newer. own (let b : i.base ≡ 0 = base in omega arith);
    chain = keeps.chain i agrees;
    reach = reach;
    rung = rung_entry;
    rung_whole = rung_last;
  }

  queue_chain : IsQueueChain g i 0 ds
  queue_chain = at (cases_eq q.head 0)
    where
      at : (q.head ≡ 0) ⊎ (q.head ≢ 0) → IsQueueChain g i 0 ds
      at (inl none) = some_chain (area_lba g 0 place) (λ some. absurd (omega arith)) (λ some. refl)
      at (inr some) =
          let above : 0 < s.head = let same = head in omega arith in
          let newest = keeps.newest above in
          some_chain newest.0 (λ more. ap says (slot_before above) ∙ newest.1) newest.2

  whole : AreWhole g i (λ n. ds)
  whole = record {
    limit = let b : i.base ≡ 0 = base in omega arith;
    each = λ n less. subst (λ (k : ℕ). IsQueueChain g i k ds) (let first : 0 ≡ n = omega arith in first) queue_chain;
    once = λ n m first second apart. absurd (apart (omega arith));
  }

  prefix : IsPrefix g i (λ n. ds) ds
  prefix = record {
    row = subst (λ (n : ℕ). AreInRow n ds) (sym base) keeps.row;
    whole = λ d has. (let queue : d.queue ≡ 0 = queue_of_chain g i 0 (length ds) place ds (keeps.chain i agrees) d has in omega arith, has);
    greatest = λ n d less has. λ above. let most : d.number ≤ 0 + length ds = number_in_row 0 ds keeps.row d has in let b : i.base ≡ 0 = base in omega arith;
  }

  pub shows_map : ShowsMap g (shown journal_reading g (q ∷ []) r) (length ds) (after_all empty_map ts)
  shows_map = record {
    ds = ds;
    base = base;
    reaches = record { chains = λ n. ds; whole = whole; prefix = prefix };
    prefix_is = refl;
    blocks = λ b v within is. stands_all g i ds ts b v (keeps.carry i agrees) is;
  }
