-- The transaction of an entry, and what an entry that isn't past the stored head can't overwrite.
use Rattle.std.proofs.Common.{◌≡◌, ◌≢◌, ℕ, zero, suc, ◌+◌, ◌-◌, ◌*◌, ◌<◌, ◌≤◌, ◌^◌, ◌%◌, eqb, true, List, [], ◌∷◌, ◌++◌, length, Option, Some, None, sym, refl, ap, ◌∙◌, inl, inr, arith}
use Rattle.std.proofs.lemmas.Bool.{cases_lt, cases_Bool, cases_order, eqb-true, eq-eqb, false≢true}
use Rattle.std.proofs.lemmas.Nat.{mod_below, mul-le}
use Rattle.mq_blocks.specs.Descriptor.{AreRising}
use Rattle.mq_blocks.specs.Limits.{depth}
use Rattle.mq_blocks.specs.Drive.{PortState}
use Rattle.mq_blocks.specs.Geometry.{homes_of, zone_of}
use Rattle.mq_blocks.specs.Journal.{is_among}
use Rattle.mq_blocks.specs.Machine.{Map, Writes}
use Rattle.mq_ledger.specs.History.{blocks_of, writes, map_after, last, upto, of_queue, AreNumbered, IsAt, IsPart}
use Rattle.mq_ledger.specs.Items.{Item, Target, AtPlace, AtHome, MaySay, write_at, item_at, item_of, total, end_of, said_of, lba_of, descriptor_blocks}
use Rattle.mq_ledger.specs.KnownJournal.{KnownJournal, LogOk, front}
use Rattle.mq_ledger.specs.Sides.{SideOk}
use Rattle.mq_ledger.specs.declared.tx.Tx.{Tx}
use Rattle.mq_ledger.proofs.History.{at_same, at_numbered, at_below, at_most, last_at, upto_number, free_at, changes_direct, written_among, map_written, write_of-append}
use Rattle.mq_ledger.proofs.Items.{Source-of, item_at-before, item-number, item-home}
use Rattle.mq_core.proofs.HistoryFronts.{done_below}
use Rattle.mq_core.proofs.EventsPorts.{row-below}

-- ---- the entries of a part of a queue's transactions

total_part : (newer txs : List Tx) → total txs ≤ total (newer ++ txs)
total_part [] txs = omega arith
total_part (t ∷ ts) txs = omega (arith, total_part ts txs)

item_part : (from : ℕ) (newer txs : List Tx) (c : ℕ) → c < end_of from txs → item_at from (newer ++ txs) c ≡ item_at from txs c
item_part from [] txs c l = refl
item_part from (t ∷ ts) txs c l = item_at-before from t (ts ++ txs) c (omega (arith, total_part ts txs, l)) ∙ item_part from ts txs c l

-- the transaction of a count of a side
pub record From (k : KnownJournal) (q : ℕ) (txs : List Tx) (c : ℕ) : Type 0 where
  pub t : Tx
  pub ts : List Tx
  pub at : IsAt t ts k.history
  pub own : t.queue ≡ q
  pub low : end_of (k.from q) (of_queue q ts) ≤ c
  pub high : c < end_of (k.from q) (of_queue q ts) + (writes t + descriptor_blocks t)
  pub is : item_at (k.from q) txs c ≡ item_of t (of_queue q ts) (c - end_of (k.from q) (of_queue q ts))

pub from_of : (k : KnownJournal) (q : ℕ) (txs : List Tx) (c : ℕ) → IsPart txs (of_queue q k.history) → k.from q ≤ c → c < end_of (k.from q) txs → From k q txs c
from_of k q txs c part l u =
    let from = k.from q in
    let whole : item_at from (of_queue q k.history) c ≡ item_at from txs c = ap (λ ws. item_at from ws c) part.1 ∙ item_part from part.0 txs c u in
    let longer : total (of_queue q k.history) ≡ total (part.0 ++ txs) = ap total part.1 in
    let s = Source-of from q k.history c l (omega (arith, longer, total_part part.0 txs)) in
    record { t = s.t; ts = s.ts; at = s.at; own = s.own; low = s.low; high = s.high; is = sym whole ∙ s.is }

pub number-from : (k : KnownJournal) (q : ℕ) (txs : List Tx) (c : ℕ) → (f : From k q txs c) → (item_at (k.from q) txs c).number ≡ f.t.number
number-from k q txs c f = ap (λ (i : Item). i.number) f.is ∙ item-number f.t (of_queue q f.ts) (c - end_of (k.from q) (of_queue q f.ts))

-- ---- direct writes

pub among_at : (ws : Writes) (i x : ℕ) → i < length ws → (write_at ws i).0 ≡ x → is_among x (blocks_of ws) ≡ true
among_at [] i x l e = absurd (omega arith)
among_at (w ∷ ws) zero x l e = rw (eq-eqb w.0 x e) refl
among_at (w ∷ ws) (suc i) x l e = elim (cases_Bool (eqb w.0 x)) [
  | inl same ↦ rw same refl
  | inr other ↦ rw other (among_at ws i x (omega arith) e)
]

rising_from : (low high : ℕ) (ws : Writes) (i : ℕ) → AreRising low high (blocks_of ws) → i < length ws → low ≤ (write_at ws i).0
rising_from low high [] i r l = absurd (omega arith)
rising_from low high (w ∷ ws) zero r l = r.0
rising_from low high (w ∷ ws) (suc i) r l = omega (arith, r.0, rising_from (w.0 + 1) high ws i r.2 (omega arith))

rising_at : (low high : ℕ) (ws : Writes) (i j : ℕ) → AreRising low high (blocks_of ws) → i < j → j < length ws → (write_at ws i).0 < (write_at ws j).0
rising_at low high [] i j r l m = absurd (omega arith)
rising_at low high (w ∷ ws) i zero r l m = absurd (omega arith)
rising_at low high (w ∷ ws) zero (suc j) r l m = omega (arith, rising_from (w.0 + 1) high ws j r.2 (omega arith))
rising_at low high (w ∷ ws) (suc i) (suc j) r l m = rising_at (w.0 + 1) high ws i j r.2 (omega arith) (omega arith)

pub among_below : (low high : ℕ) (xs : List ℕ) (x : ℕ) → AreRising low high xs → is_among x xs ≡ true → x < high
among_below low high [] x r e = absurd (false≢true e)
among_below low high (y ∷ ys) x r e = elim (cases_Bool (eqb y x)) [
  | inl same ↦ (let k = eqb-true _ _ same in omega (arith, r.1))
  | inr other ↦ among_below (y + 1) high ys x r.2 (rw other at e)
]

-- the direct write of a count
pub record DirectIn (k : KnownJournal) (q : ℕ) (txs : List Tx) (c x : ℕ) : Type 0 where
  pub t : Tx
  pub ts : List Tx
  pub at : IsAt t ts k.history
  pub own : t.queue ≡ q
  pub low : end_of (k.from q) (of_queue q ts) + length t.logged ≤ c
  pub high : c < end_of (k.from q) (of_queue q ts) + writes t
  pub block : (write_at t.direct (c - (end_of (k.from q) (of_queue q ts) + length t.logged))).0 ≡ x
  pub number : (item_at (k.from q) txs c).number ≡ t.number
  pub among : is_among x (blocks_of t.direct) ≡ true

pub direct_in : (k : KnownJournal) (q : ℕ) (txs : List Tx) (c x : ℕ) → IsPart txs (of_queue q k.history) → k.from q ≤ c → c < end_of (k.from q) txs → (item_at (k.from q) txs c).target ≡ AtHome x → DirectIn k q txs c x
direct_in k q txs c x part l u e =
    let f = from_of k q txs c part l u in
    let i = c - end_of (k.from q) (of_queue q f.ts) in
    let d = item-home f.t (of_queue q f.ts) i x (sym (ap (λ (v : Item). v.target) f.is) ∙ e) in
    let j : i - length f.t.logged ≡ c - (end_of (k.from q) (of_queue q f.ts) + length f.t.logged) = omega arith in
    let low = f.low in
    record {
      t = f.t;
      ts = f.ts;
      at = f.at;
      own = f.own;
      low = omega (arith, d.low);
      high = omega (arith, d.high);
      block = ap (λ (m : ℕ). (write_at f.t.direct m).0) (sym j) ∙ d.block;
      number = number-from k q txs c f;
      among = among_at f.t.direct (i - length f.t.logged) x (omega (arith, d.low, d.high)) d.block;
    }

-- it lies in the queue's zone
pub direct-zone : (k : KnownJournal) (q : ℕ) (txs : List Tx) (c x : ℕ) → LogOk k → DirectIn k q txs c x → (zone_of k.geometry x ≡ Some q) × (x < homes_of k.geometry)
direct-zone k q txs c x log d =
    let form = (log.each d.t d.ts d.at).0 in
    (form.zoned x d.among ∙ ap Some d.own, among_below 0 (homes_of k.geometry) (blocks_of d.t.direct) x form.direct d.among)

-- ---- what it writes is needed by nobody

-- an entry at or past the stored head is of a number past the front
pub late : (k : KnownJournal) (q : ℕ) (txs : List Tx) (p : PortState) (c x : ℕ) → LogOk k → SideOk k q txs p → p.stored_head ≤ c → (d : DirectIn k q txs c x) → front k < d.t.number
late k q txs p c x log s past d =
    elim (cases_lt (front k) d.t.number) [
      | inl above ↦ above
      | inr low ↦
          let done = s.done d.t d.ts d.at d.own (done_below k.base k.done d.t d.ts k.history log.numbers d.at low) in
          let o = s.order.stored in
          absurd (omega (arith, d.high))
    ]

-- it holds nothing that an older content still needs
pub unneeded : (k : KnownJournal) (q : ℕ) (txs : List Tx) (p : PortState) (c x v : ℕ) (old : List ℕ) → LogOk k → SideOk k q txs p → p.stored_head ≤ c → DirectIn k q txs c x → v ≤ front k → last k.base (upto (front k) k.history) x ≤ v
    → map_after k.start (upto v k.history) x ≡ Some old → ⊥
unneeded k q txs p c x v old log s past d low m e =
    let placed = (log.each d.t d.ts d.at).1 in
    go (free_at k.start k.base v (front k) d.t d.ts k.history x log.numbers d.at (late k q txs p c x log s past d) low (placed.free x d.among) (placed.settled x d.among) m) e
  where
    go : {o : Option (List ℕ)} → o ≡ None → o ≡ Some old → ⊥
    go a b = cc

abbrev first_direct : ℕ → ℕ → List Tx → ℕ
first_direct from q [] = 0
first_direct from q (t ∷ ts) = end_of from (of_queue q ts) + length t.logged

abbrev direct_of : List Tx → Writes
direct_of [] = []
direct_of (t ∷ ts) = t.direct

same_count : (k : KnownJournal) (q : ℕ) (txs : List Tx) (c d x : ℕ) → LogOk k → (a : DirectIn k q txs c x) (b : DirectIn k q txs d x) → a.t.number ≡ b.t.number → c ≡ d
same_count k q txs c d x log a b e =
    let from = k.from q in
    let same : (a.t ∷ a.ts) ≡ (b.t ∷ b.ts) = at_same k.base a.t b.t a.ts b.ts k.history log.numbers a.at b.at e in
    let at : end_of from (of_queue q a.ts) + length a.t.logged ≡ end_of from (of_queue q b.ts) + length b.t.logged = ap (first_direct from q) same in
    let ds : a.t.direct ≡ b.t.direct = ap direct_of same in
    let i = c - (end_of from (of_queue q a.ts) + length a.t.logged) in
    let j = d - (end_of from (of_queue q a.ts) + length a.t.logged) in
    let la = a.low in let ha = a.high in let lb = b.low in let hb = b.high in
    let len : length a.t.direct ≡ length b.t.direct = ap length ds in
    let ai : (write_at a.t.direct i).0 ≡ x = a.block in
    let bj : (write_at a.t.direct j).0 ≡ x = rw (at, ds) b.block in
    let form = (log.each a.t a.ts a.at).0 in
    elim (cases_order i j) [
      | inl z ↦ omega arith
      | inr (inl less) ↦ absurd (let r = rising_at 0 (homes_of k.geometry) a.t.direct i j form.direct less (omega arith) in omega arith)
      | inr (inr more) ↦ absurd (let r = rising_at 0 (homes_of k.geometry) a.t.direct j i form.direct more (omega arith) in omega arith)
    ]

value_direct : (start : Map) (t : Tx) (ts : List Tx) (x : ℕ) → is_among x (blocks_of t.direct) ≡ true → map_after start (t ∷ ts) x ≡ None → ⊥
value_direct start t ts x among none =
    let w = written_among t.direct x among in
    go (Rattle.mq_blocks.specs.Machine.write_of t.logged x) refl w.1
  where
    absent : {o : Option (List ℕ)} {b : List ℕ} → o ≡ Some b → o ≡ None → ⊥
    absent a b = cc

    go : (o : Option (List ℕ)) → Rattle.mq_blocks.specs.Machine.write_of t.logged x ≡ o → {b : List ℕ} → Rattle.mq_blocks.specs.Machine.write_of t.direct x ≡ Some b → ⊥
    go (Some v) a c = absent (map_written start t ts x v (write_of-append t.logged t.direct x ∙ ap (λ o. Rattle.mq_blocks.specs.Machine.or_kept o (Rattle.mq_blocks.specs.Machine.write_of t.direct x)) a)) none
    go None a {b} c = absent (map_written start t ts x b (write_of-append t.logged t.direct x ∙ ap (λ o. Rattle.mq_blocks.specs.Machine.or_kept o (Rattle.mq_blocks.specs.Machine.write_of t.direct x)) a ∙ c)) none

-- nor a block of another direct write of the queue that still counts
pub clash : (k : KnownJournal) (q : ℕ) (txs : List Tx) (p : PortState) (c d x : ℕ) → LogOk k → SideOk k q txs p → p.stored_head ≤ c → DirectIn k q txs c x → (b : DirectIn k q txs d x)
    → last k.base (upto (front k) k.history) x ≤ b.t.number → d ≢ c → ⊥
clash k q txs p c d x log s past a b m apart =
    let pa = (log.each a.t a.ts a.at).1 in
    let pb = (log.each b.t b.ts b.at).1 in
    let beyond = late k q txs p c x log s past a in
    elim (cases_order a.t.number b.t.number) [
      | inl e ↦ apart (sym (same_count k q txs c d x log a b e))
      | inr (inl less) ↦
          let settled = pb.settled x b.among in
          let z = last_at k.base a.t a.ts b.ts x (numbers_of b.t b.ts b.at) (at_below k.base b.t a.t b.ts a.ts k.history log.numbers b.at a.at less) (changes_direct a.t x a.among) in
          omega arith
      | inr (inr more) ↦
          elim (cases_lt (front k) b.t.number) [
            | inl both ↦
                let settled = pa.settled x a.among in
                let z = last_at k.base b.t b.ts a.ts x (numbers_of a.t a.ts a.at) (at_below k.base a.t b.t a.ts b.ts k.history log.numbers a.at b.at more) (changes_direct b.t x b.among) in
                omega arith
            | inr low ↦
                let none = free_at k.start k.base b.t.number (front k) a.t a.ts k.history x log.numbers a.at beyond low (pa.free x a.among) (pa.settled x a.among) m in
                value_direct k.start b.t b.ts x b.among (rw (upto_number k.base b.t b.ts k.history log.numbers b.at) at none)
          ]
    ]
  where
    numbers_of : (t : Tx) (ts : List Tx) → IsAt t ts k.history → AreNumbered k.base ts
    numbers_of t ts at = (at_numbered k.base t ts k.history log.numbers at).1

-- ---- entries can say what they are to say

pub may-say : (k : KnownJournal) (q : ℕ) (txs : List Tx) (c n : ℕ) → LogOk k → q < k.geometry.queues → From k q txs c → n < depth → MaySay n (said_of k.geometry q (item_at (k.from q) txs c))
may-say k q txs c n log own f slot =
    let number = number-from k q txs c f in
    let limit = log.limit in
    let most = at_most k.base f.t f.ts k.history log.numbers f.at in
    let least = (at_numbered k.base f.t f.ts k.history log.numbers f.at).0 in
    record {
      slot = slot;
      number_low = omega arith;
      number_high = omega arith;
      lba = low (item_at (k.from q) txs c).target refl;
    }
  where
    all : k.geometry.queues * k.geometry.area ≤ 16 * 16384
    all = mul-le k.geometry.queues k.geometry.area 16 16384 k.geometry.queues_high k.geometry.area_high

    direct : (x : ℕ) → (item_at (k.from q) txs c).target ≡ AtHome x → x < homes_of k.geometry
    direct x e =
        let d = item-home f.t (of_queue q f.ts) (c - end_of (k.from q) (of_queue q f.ts)) x (sym (ap (λ (v : Item). v.target) f.is) ∙ e) in
        let form = (log.each f.t f.ts f.at).0 in
        among_below 0 (homes_of k.geometry) (blocks_of f.t.direct) x form.direct
        (among_at f.t.direct (c - end_of (k.from q) (of_queue q f.ts) - length f.t.logged) x (omega (arith, d.low, d.high)) d.block)

    low : (target : Target) → (item_at (k.from q) txs c).target ≡ target → lba_of k.geometry q target < 2 ^ 64
    low (AtPlace place) e =
        let size = k.geometry.area_low in
        let small : place % k.geometry.area < k.geometry.area = mod_below place k.geometry.area (omega arith) in
        let row = row-below q k.geometry.queues k.geometry.area (place % k.geometry.area) own small in
        let a = all in
        omega arith
    low (AtHome x) e =
        let homes = k.geometry.homes_high in
        let d : x < k.geometry.meta + k.geometry.queues * k.geometry.zone = direct x e in
        let a = all in
        omega arith
