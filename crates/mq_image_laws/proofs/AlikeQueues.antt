-- Queues that recovery can't tell apart are readable alike, or refused alike.
use Rattle.std.proofs.Common.{◌≡◌, ◌<◌, ◌≤◌, ◌⊎◌, inl, inr, ℕ, ◌+◌, ◌-◌, ◌%◌, List, [], ◌∷◌, refl, sym, ◌∙◌, ap, subst, arith}
use Rattle.std.specs.Prelude.{Option, Some, None}
use Rattle.std.specs.Option.{unwrap_or}
use Rattle.mq_blocks.specs.Blocks.{block_at}
use Rattle.mq_blocks.specs.Descriptor.{Descriptor}
use Rattle.mq_blocks.specs.Drive.{PortState}
use Rattle.mq_blocks.specs.Geometry.{area_of}
use Rattle.mq_blocks.specs.Journal.{WriteFields, number_limit}
use Rattle.mq_blocks.specs.declared.geometry.Geometry.{Geometry}
use Rattle.mq_area.specs.Reading.{Accepts, Refuses}
use Rattle.mq_area.specs.declared.descriptor.PlaceIs.{PlaceIs}
use Rattle.mq_area.specs.declared.descriptor.PlaceIs.TheVariants.{Index, Exact}
use Rattle.mq_nvme.specs.Entry.{refusal_of}
use Rattle.mq_nvme.specs.Says.{says}
use Rattle.mq_image_laws.specs.Alike.{IsQueueAlike}
use Rattle.mq_recover.specs.Recover.{IsWithinReach, where_of}
use Rattle.mq_recover.specs.Refusals.{AreFound, AreRung, AreWords, IsFoundNext, IsIndex, IsNewest, IsReadable, IsRung, IsRungWhole, IsWholeChain, RefusesChain, RefusesNewest, RefusesNext, RefusesQueue, RefusesRequest, RefusesRung, before_where, block_where, entry_at, expected}
use Rattle.mq_recover.specs.Refusals.RefusesChainBy.{ChainOutside, ChainStopped}
use Rattle.mq_recover.specs.Refusals.RefusesNewest.{NewestCommit, NewestEntry, NewestLimit}
use Rattle.mq_recover.specs.Refusals.RefusesNextBy.{NextApart, NextRefused}
use Rattle.mq_recover.specs.Refusals.RefusesQueueBy.{QueueChain, QueueNewest, QueueRung, QueueWords}
use Rattle.mq_recover.specs.Refusals.RefusesRequest.{RequestEntry, RequestLimit}
use Rattle.mq_recover.specs.Refusals.RefusesRung.{RungCommit, RungStopped}
use Rattle.mq_recover.specs.declared.refusal.ChainRefusal.{ChainRefusal}

pub queue-back : (p r : PortState) → IsQueueAlike p r → IsQueueAlike r p
queue-back p r h =
    let a = h.head in
    let b = h.doorbell in
    record { head = sym h.head; doorbell = sym h.doorbell; blocks = sym h.blocks; entries = λ c low high. sym (h.entries c (omega arith) (omega arith)) }

-- ---- the words, and the entry before the head

words-alike : (p r : PortState) → IsQueueAlike p r → AreWords p → AreWords r
words-alike p r h w =
    let a = h.head in
    let b = h.doorbell in
    let o = w.order in
    let f = w.few in
    let l = w.low in
    record { order = omega arith; few = omega arith; low = omega arith }

-- the entry before the head, where there is one
before-head : (p r : PortState) → IsQueueAlike p r → AreWords p → 0 < p.head → entry_at p (p.head - 1) ≡ entry_at r (r.head - 1)
before-head p r h w some = let o = w.order in h.entries (p.head - 1) (omega arith) (omega arith) ∙ ap (λ (n : ℕ). entry_at r (n - 1)) h.head

newest-alike : (p r : PortState) (number lba : ℕ) → IsQueueAlike p r → AreWords p → IsNewest p number lba → IsNewest r number lba
newest-alike p r number lba h w n =
    let a = h.head in
    record {
      none = λ z. n.none (h.head ∙ z);
      some = λ more. let some : 0 < p.head = omega arith in ap says (sym (before-head p r h w some)) ∙ n.some some;
      limit = n.limit;
    }

newest-refused : (p r : PortState) (cause : ChainRefusal) → IsQueueAlike p r → AreWords p → RefusesNewest p cause → RefusesNewest r cause
newest-refused p r _ h w (NewestEntry cause some is) = let a = h.head in NewestEntry cause (omega arith) (ap refusal_of (sym (before-head p r h w some)) ∙ is)
newest-refused p r _ h w (NewestCommit number lba some is) = let a = h.head in NewestCommit number lba (omega arith) (ap says (sym (before-head p r h w some)) ∙ is)
newest-refused p r _ h w (NewestLimit number lba some is high) = let a = h.head in NewestLimit number lba (omega arith) (ap says (sym (before-head p r h w some)) ∙ is) high

-- ---- the chain

block-alike : (g : Geometry) (p r : PortState) (at : PlaceIs) → p.blocks ≡ r.blocks → block_where g p at ≡ block_where g r at
block-alike g p r at e = ap (λ (bs : List (Option (List ℕ))). block_at bs (where_of at % area_of g)) e

before-alike : (g : Geometry) (p r : PortState) (at : PlaceIs) → p.blocks ≡ r.blocks → before_where g p at ≡ before_where g r at
before-alike g p r at e = ap (λ (bs : List (Option (List ℕ))). block_at bs ((where_of at % area_of g + (area_of g - 1)) % area_of g)) e

accepts-alike : (g : Geometry) (p r : PortState) (q number : ℕ) (at : PlaceIs) (d : Descriptor) → p.blocks ≡ r.blocks → Accepts g (expected q number at) (block_where g p at) (before_where g p at) d
    → Accepts g (expected q number at) (block_where g r at) (before_where g r at) d
accepts-alike g p r q number at d e a =
    subst (λ (b : List ℕ). Accepts g (expected q number at) (block_where g r at) b d) (before-alike g p r at e) (subst (λ (b : List ℕ). Accepts g (expected q number at) b (before_where g p at) d) (block-alike g p r at e) a)

found-alike : (g : Geometry) (p r : PortState) (q base number : ℕ) (at : PlaceIs) (newest : Option ℕ) (ds : List Descriptor) (next : ℕ) (next_at : PlaceIs) (next_newest : Option ℕ) → p.blocks ≡ r.blocks
    → AreFound g p q base number at newest ds next next_at next_newest → AreFound g r q base number at newest ds next next_at next_newest
found-alike g p r q base number at newest [] next next_at next_newest e f = f
found-alike g p r q base number at newest (d ∷ ds) next next_at next_newest e f =
    (f.0, (accepts-alike g p r q number at d e f.1.0, f.1.1), found-alike g p r q base d.prev_number (Exact d.prev_place) (Some (unwrap_or newest d.place)) ds next next_at next_newest e f.2)

next-refused : (g : Geometry) (p r : PortState) (q number : ℕ) (at : PlaceIs) (newest : Option ℕ) (cause : ChainRefusal) → p.blocks ≡ r.blocks → RefusesNext g p q number at newest cause → RefusesNext g r q number at newest cause
next-refused g p r q number at newest _ e (NextRefused cause other is) =
    NextRefused cause other (subst (λ (b : List ℕ). Refuses g (expected q number at) (block_where g r at) b cause) (before-alike g p r at e) (subst (λ (b : List ℕ). Refuses g (expected q number at) b (before_where g p at) cause) (block-alike g p r at e) is))
next-refused g p r q number at newest _ e (NextApart d a far) = NextApart d (accepts-alike g p r q number at d e a) far

chain-refused : (g : Geometry) (p r : PortState) (q base number lba : ℕ) (cause : ChainRefusal) → p.blocks ≡ r.blocks → RefusesChain g p q base number lba cause → RefusesChain g r q base number lba cause
chain-refused g p r q base number lba _ e (ChainOutside above none) = ChainOutside above none
chain-refused g p r q base number lba cause e (ChainStopped index ds next at newest above is found more refused) =
    ChainStopped index ds next at newest above is (found-alike g p r q base number (Index index) None ds next at newest e found) more (next-refused g p r q next at newest cause e refused)

chain-alike : (g : Geometry) (p r : PortState) (q base number lba : ℕ) (ds : List Descriptor) → p.blocks ≡ r.blocks → IsWholeChain g p q base number lba ds → IsWholeChain g r q base number lba ds
chain-alike g p r q base number lba ds e (inl none) = inl none
chain-alike g p r q base number lba ds e (inr c) =
    inr (c.0, c.1, c.2, c.3, c.4, c.5, found-alike g p r q base number (Index c.1) None ds c.3 c.4 c.5 e c.6, c.7)

-- ---- the entries from head to doorbell

rung-alike : (p r : PortState) (from to : ℕ) → IsQueueAlike p r → p.head ≤ from → to ≤ p.doorbell → AreRung p from to → AreRung r from to
rung-alike p r from to h low high a c above below =
    let s = a c above below in
    (s.0, ap says (sym (h.entries c (omega arith) (omega arith))) ∙ s.1, s.2)

-- all of them
rung-all : (p r : PortState) → IsQueueAlike p r → AreRung p p.head p.doorbell → AreRung r r.head r.doorbell
rung-all p r h a =
    let x = h.head in
    let y = h.doorbell in
    λ c above below. rung-alike p r p.head p.doorbell h (omega arith) (omega arith) a c (omega arith) (omega arith)

-- the last one
last-alike : (p r : PortState) → IsQueueAlike p r → p.head < p.doorbell → entry_at p (p.doorbell - 1) ≡ entry_at r (r.doorbell - 1)
last-alike p r h some = h.entries (p.doorbell - 1) (omega arith) (omega arith) ∙ ap (λ (n : ℕ). entry_at r (n - 1)) h.doorbell

rung-whole : (p r : PortState) → IsQueueAlike p r → IsRungWhole p → IsRungWhole r
rung-whole p r h w some =
    let x = h.head in
    let y = h.doorbell in
    let more : p.head < p.doorbell = omega arith in
    let s = w more in
    (s.0, s.1, ap says (sym (last-alike p r h more)) ∙ s.2)

request-refused : (p r : PortState) (count : ℕ) (cause : ChainRefusal) → entry_at p count ≡ entry_at r count → RefusesRequest p count cause → RefusesRequest r count cause
request-refused p r count _ e (RequestEntry cause is) = RequestEntry cause (ap refusal_of (sym e) ∙ is)
request-refused p r count _ e (RequestLimit number lba commit is high) = RequestLimit number lba commit (ap says (sym e) ∙ is) high

rung-refused : (p r : PortState) (cause : ChainRefusal) → IsQueueAlike p r → RefusesRung p cause → RefusesRung r cause
rung-refused p r cause h (RungStopped count above below before refused) =
    let x = h.head in
    let y = h.doorbell in
    let early : AreRung r p.head count = rung-alike p r p.head count h (omega arith) (omega arith) before in
    RungStopped count (omega arith) (omega arith) (subst (λ (n : ℕ). AreRung r n count) h.head early) (request-refused p r count cause (h.entries count (omega arith) (omega arith)) refused)
rung-refused p r _ h (RungCommit number lba some all is) =
    let x = h.head in
    let y = h.doorbell in
    RungCommit number lba (omega arith) (rung-all p r h all) (ap says (sym (last-alike p r h some)) ∙ is)

-- ---- a queue

pub readable-alike : (g : Geometry) (p r : PortState) (q base : ℕ) (ds : List Descriptor) → IsQueueAlike p r → IsReadable g p q base ds → IsReadable g r q base ds
readable-alike g p r q base ds h a = record {
  number = a.number;
  lba = a.lba;
  words = words-alike p r h a.words;
  newest = newest-alike p r a.number a.lba h a.words a.newest;
  chain = chain-alike g p r q base a.number a.lba ds h.blocks a.chain;
  rung = rung-all p r h a.rung;
  rung_whole = rung-whole p r h a.rung_whole;
}

pub queue-refused : (g : Geometry) (p r : PortState) (q base : ℕ) (cause : ChainRefusal) → IsQueueAlike p r → RefusesQueue g p q base cause → RefusesQueue g r q base cause
queue-refused g p r q base _ h (QueueWords none) = QueueWords (λ w. none (words-alike r p (queue-back p r h) w))
queue-refused g p r q base cause h (QueueNewest w n) = QueueNewest (words-alike p r h w) (newest-refused p r cause h w n)
queue-refused g p r q base cause h (QueueChain number lba w n c) = QueueChain number lba (words-alike p r h w) (newest-alike p r number lba h w n) (chain-refused g p r q base number lba cause h.blocks c)
queue-refused g p r q base cause h (QueueRung number lba ds w n c s) =
    QueueRung number lba ds (words-alike p r h w) (newest-alike p r number lba h w n) (chain-alike g p r q base number lba ds h.blocks c) (rung-refused p r cause h s)
