-- What is known grows: draws, done numbers, and other bases keep what holds of the log and of ports
-- that nobody touched.
use Rattle.std.proofs.Common.{◌≡◌, ℕ, ◌+◌, ◌<◌, ◌≤◌, eqb, true, false, Bool, cond, List, [], ◌∷◌, length, is_some, Option, Some, None, sym, refl, ap, subst, ◌∙◌, inl, inr, arith}
use Rattle.std.proofs.lemmas.Bool.{cases_lt, cases_eq, cases_Bool, lt-leb, le-leb, and_left, false≢true}
use Rattle.mq_blocks.specs.Drive.{PortState, staged_end}
use Rattle.mq_blocks.specs.Journal.{is_among}
use Rattle.mq_blocks.specs.Machine.{Map, write_of}
use Rattle.mq_blocks.specs.declared.command.Command.{Command}
use Rattle.mq_blocks.specs.declared.geometry.Geometry.{Geometry}
use Rattle.mq_ledger.specs.History.{writes, map_after, last, last_logged, is_exposed, upto, of_queue, part_of, IsAt, IsPart}
use Rattle.mq_blocks.specs.Descriptor.{DescriptorForm}
use Rattle.mq_ledger.specs.Items.{command_of, end_of, next, item_at, IsEnd, descriptor_blocks}
use Rattle.mq_ledger.specs.KnownJournal.{KnownJournal, LogOk, IsPlaced, front, draw_known, MayDraw}
use Rattle.mq_ledger.specs.Sides.{AreOwn, AreHome, SideOk, RootOk, holds_count}
use Rattle.mq_ledger.specs.declared.tx.Tx.{Tx}
use Rattle.mq_ledger.proofs.History.{upto-past, last_upto_more}
use Rattle.mq_ledger.proofs.Items.{of_queue-own, of_queue-other, item_at-before, below-past}
use Rattle.mq_core.specs.Events.{HasRoom}
use Rattle.mq_core.proofs.HistoryFronts.{part-less, part_le, part_more, DoneMore}
use Rattle.mq_core.proofs.SidesCommands.{count_range, counted_next}

pub front_low : (k : KnownJournal) → front k ≤ k.base + length k.history
front_low k = omega (arith, part_le k.done k.history)

-- ---- a port that stays, while what is known moves

pub record Moved (k : KnownJournal) (q : ℕ) (txs : List Tx) (p : PortState) (h : List Tx) (w : Tx → List Tx → Bool) (word : ℕ) : Type 0 where
  pub part : IsPart txs (of_queue q h)
  pub fits : next txs ≤ next (upto word txs) + k.geometry.area
  pub low : end_of (k.from q) (upto k.word txs) ≤ end_of (k.from q) (upto word txs)
  pub based : end_of (k.from q) (upto word txs) ≤ p.head
  pub done : (t : Tx) (ts : List Tx) → IsAt t ts h → t.queue ≡ q → w t ts ≡ true → end_of (k.from q) (of_queue q ts) + (writes t + descriptor_blocks t) ≤ p.head
  pub change : (x v : ℕ) → last k.base (upto (k.base + length (part_of w h)) h) x ≤ v → last k.base (upto (front k) k.history) x ≤ v

abbrev pub moved_to : KnownJournal → List Tx → (Tx → List Tx → Bool) → (ℕ → ℕ → Bool) → ℕ → KnownJournal
moved_to k h done due word = record k { history = h; done = done; due = due; word = word }

pub side_moved : (k : KnownJournal) (q : ℕ) (txs : List Tx) (p : PortState) (h : List Tx) (done : Tx → List Tx → Bool) (due : ℕ → ℕ → Bool) (word : ℕ) → SideOk k q txs p → Moved k q txs p h done word → AreHome (moved_to k h done due word) (Some q) p
    → SideOk (moved_to k h done due word) q txs p
side_moved k q txs p h done due word s m homes =
    record {
      queue = s.queue;
      part = m.part;
      port = s.port;
      order = s.order;
      limit = s.limit;
      ends = s.ends;
      ring = record { settled = s.ring.settled; start = s.ring.start; rung = s.ring.rung; waits = s.ring.waits };
      commands = s.commands;
      area = record { fits = m.fits; limit = s.area.limit; holds = λ c place low d target. s.area.holds c place (omega (arith, m.low)) d target };
      based = m.based;
      done = m.done;
      direct = λ c x low d target l. s.direct c x low d target (m.change x _ l);
      homes = homes;
    }

-- ---- a draw

last-along : (base v x : ℕ) (hs ws : List Tx) → hs ≡ ws → last base hs x ≤ v → last base ws x ≤ v
last-along base v x hs ws e l = subst (λ txs. last base txs x ≤ v) e l

value-along : (start : Map) (x : ℕ) (c : List ℕ) (hs ws : List Tx) → hs ≡ ws → map_after start hs x ≡ Some c → map_after start ws x ≡ Some c
value-along start x c hs ws e l = subst (λ txs. map_after start txs x ≡ Some c) e l

-- where the last copy isn't above the number, no copy above it is in sight
hidden_of : (base n : ℕ) (h : List Tx) (x : ℕ) → last_logged base h x ≤ n → is_exposed n h x ≡ false
hidden_of base n [] x l = refl
hidden_of base n (t ∷ ts) x l = elim (cases_lt n t.number) [
  | inr at ↦ rw (le-leb _ _ at) refl
  | inl past ↦ rw (lt-leb _ _ past) (elim (cases_Bool (is_some (write_of t.logged x))) [
    | inl e ↦ absurd (let k = rw e at l in omega arith)
    | inr e ↦ (let k = rw e at l in rw e (go (is_among x t.revoked) (is_exposed n ts x) (hidden_of base n ts x k)))
  ])
]
  where
    go : (r ex : Bool) → ex ≡ false → cond r false ex ≡ false
    go true ex e = refl
    go false ex e = e

module _ (k : KnownJournal) (t : Tx) (log : LogOk k) (number : t.number ≡ k.base + length k.history + 1) (new : k.done t k.history ≡ false) where
  pub front_drawn : front (draw_known t k) ≡ front k
  front_drawn = rw (part-less k.done t k.history (and_left _ _ new)) refl

  -- what is done is seen as before
  seen_drawn : upto (front (draw_known t k)) (t ∷ k.history) ≡ upto (front k) k.history
  seen_drawn =
      let low = front_low k in
      ap (λ f. upto f (t ∷ k.history)) front_drawn ∙ upto-past (front k) t k.history (omega arith)

  homes_drawn : (z : Option ℕ) (p : PortState) → AreHome k z p → AreHome (draw_known t k) z p
  homes_drawn z p homes x v content block zone due there m =
      let low = front_low k in
      homes x v content block zone due (value-along k.start x content (upto v (t ∷ k.history)) (upto v k.history) (upto-past v t k.history (omega (arith, log.due x v due, low))) there)
      (last-along k.base v x (upto (front (draw_known t k)) (t ∷ k.history)) (upto (front k) k.history) seen_drawn m)

  -- whoever draws, other ports stay as they are
  pub side_drawn : (q : ℕ) (txs : List Tx) (p : PortState) → SideOk k q txs p → SideOk (draw_known t k) q txs p
  side_drawn q txs p s =
      side_moved k q txs p (t ∷ k.history) k.done k.due k.word s (record {
        part = elim (cases_eq t.queue q) [
          | inl e ↦ (t ∷ s.part.0, of_queue-own q t k.history e ∙ ap (λ ws. t ∷ ws) s.part.1)
          | inr e ↦ (s.part.0, of_queue-other q t k.history e ∙ s.part.1)
        ];
        fits = s.area.fits;
        low = omega arith;
        based = s.based;
        done = λ u vs at own known. elim at [
          | inl here ↦ absurd (false≢true (sym new ∙ (λ i. k.done (here.0 i) (here.1 i)) ∙ known))
          | inr deeper ↦ s.done u vs deeper own known
        ];
        change = λ x v l. last-along k.base v x (upto (front (draw_known t k)) (t ∷ k.history)) (upto (front k) k.history) seen_drawn l;
      }) (homes_drawn (Some q) p s.homes)

  pub root_drawn : (p : PortState) → RootOk k p → RootOk (draw_known t k) p
  root_drawn p r = record { port = r.port; posted = r.posted; bases = r.bases; homes = homes_drawn None p r.homes }

pub placed_front : (k l : KnownJournal) (t : Tx) (ts : List Tx) → l.start ≡ k.start → l.base ≡ k.base → front k ≤ front l → k.word ≤ l.word → IsPlaced k t ts → IsPlaced l t ts
placed_front k l t ts start base more word p =
    record {
      free = λ x a. subst (λ m. map_after m ts x ≡ None) (sym start) (p.free x a);
      settled = λ x a. (let s : last l.base ts x ≤ front k = subst (λ b. last b ts x ≤ front k) (sym base) (p.settled x a) in omega arith);
      hidden = λ x a not. exposed_less k.word l.word ts x word (p.hidden x a not);
    }
  where
    cond_less : (a r old new : Bool) → (old ≡ false → new ≡ false) → cond a true (cond r false old) ≡ false → cond a true (cond r false new) ≡ false
    cond_less true r old new h e = e
    cond_less false true old new h e = refl
    cond_less false false old new h e = h e

    exposed_less : (m n : ℕ) (h : List Tx) (x : ℕ) → m ≤ n → is_exposed m h x ≡ false → is_exposed n h x ≡ false
    exposed_less m n [] x l e = refl
    exposed_less m n (t ∷ ts) x l e = elim (cases_lt n t.number) [
      | inr at ↦ rw (le-leb _ _ at) refl
      | inl past ↦
          let e' = rw (lt-leb t.number m (omega arith)) at e in
          rw (lt-leb t.number n past) (cond_less (is_some (write_of t.logged x)) (is_among x t.revoked) (is_exposed m ts x) (is_exposed n ts x) (exposed_less m n ts x l) e')
    ]

-- a transaction isn't done before it is drawn
pub log_drawn : (k : KnownJournal) (t : Tx) → LogOk k → MayDraw k t → k.done t k.history ≡ false → LogOk (draw_known t k)
log_drawn k t log may new =
    let same = front_drawn k t log may.number new in
    let more : front k ≤ front (draw_known t k) = omega (arith, same) in
    record {
      entries = log.entries;
      numbers = (may.number, log.numbers);
      limit = omega (arith, may.number, may.limit);
      word_low = log.word_low;
      word_high = omega (arith, log.word_high, more);
      due = λ x v due. omega (arith, log.due x v due, more);
      each = λ u txs at. elim at [
        | inr deeper ↦ (let e = log.each u txs deeper in (e.0, placed_front k (draw_known t k) u txs refl refl more (omega arith) e.1))
        | inl here ↦ (
          rw (← here.0) may.form,
          placed_front k (draw_known t k) u txs refl refl more (omega arith) (rw (← here.0, ← here.1) (record {
            free = may.free;
            settled = may.settled;
            hidden = λ x among not. hidden_of k.base k.word k.history x (elim (cases_lt k.word (last_logged k.base k.history x)) [
              | inl above ↦ absurd (false≢true (sym not ∙ may.revoked x among above))
              | inr low ↦ low
            ]);
          })),
        )
      ];
    }

-- ---- a port's own draw

own_along : (form : DescriptorForm) (g : Geometry) (q from : ℕ) (txs ws : List Tx) (cs : List Command) → ((n : ℕ) → holds_count n cs ≡ true → item_at from ws n ≡ item_at from txs n) → AreOwn form g q from txs cs → AreOwn form g q from ws cs
own_along form g q from txs ws [] same own = tt
own_along form g q from txs ws (c ∷ cs) same own = (
  own.0 ∙ ap (λ i. command_of form g q c.count i) (sym (same c.count (rw (Rattle.std.proofs.lemmas.Bool.eq-eqb c.count c.count refl) refl))),
  own_along form g q from txs ws cs (λ n held. same n (elim (cases_Bool (eqb c.count n)) [
    | inl e ↦ rw e refl
    | inr e ↦ rw e held
  ])) own.1,
)

end_drawn : (from : ℕ) (t : Tx) (txs : List Tx) (h : ℕ) → h ≤ end_of from txs → IsEnd from txs h → IsEnd from (t ∷ txs) h
end_drawn from t txs h l e = rw (below-past from h t txs (omega arith)) e

-- the port's next transaction, which has been drawn
pub side_extends : (k : KnownJournal) (q : ℕ) (t : Tx) (txs : List Tx) (p : PortState) → IsPart (t ∷ txs) (of_queue q k.history) → k.word < t.number → SideOk k q txs p → HasRoom k.geometry (k.from q) k.word txs t p → SideOk k q (t ∷ txs) p
side_extends k q t txs p part new s room =
    let o = s.order in
    let rung = room.rung in
    let same : (c : ℕ) → c < end_of (k.from q) txs → item_at (k.from q) (t ∷ txs) c ≡ item_at (k.from q) txs c = λ c l. item_at-before (k.from q) t txs c l in
    let kept : upto k.word (t ∷ txs) ≡ upto k.word txs = upto-past k.word t txs new in
    record {
      queue = s.queue;
      part = part;
      port = s.port;
      order = record {
        head_low = o.head_low;
        stored = o.stored;
        rung = o.rung;
        flushed = o.flushed;
        staged = o.staged;
        drawn = omega (arith, o.drawn);
        room = (let r = room.ring in omega (arith, o.head_low, o.stored, o.rung, o.flushed, o.staged, o.drawn, rung));
      };
      limit = omega (arith, room.limit);
      ends = record {
        head = end_drawn (k.from q) t txs p.head (omega (arith, o.stored, o.rung, rung)) s.ends.head;
        stored = end_drawn (k.from q) t txs p.stored_head (omega (arith, o.rung, rung)) s.ends.stored;
        doorbell = end_drawn (k.from q) t txs p.doorbell (omega (arith, rung)) s.ends.doorbell;
      };
      ring = record {
        settled = s.ring.settled;
        start = s.ring.start;
        rung = λ c low near high. rw (same c (omega (arith, rung))) (s.ring.rung c low near high);
        waits = λ c low high. rw (same c (omega (arith, o.drawn))) (s.ring.waits c low high);
      };
      commands = record {
        pending = own_along k.entries.form k.geometry q (k.from q) txs (t ∷ txs) p.pending (λ n held.
            same n (omega (arith, (count_range p.doorbell (staged_end p) n p.pending (counted_next p.doorbell p.pending s.commands.pending_counts) held).1, o.drawn))) s.commands.pending;
        pending_counts = s.commands.pending_counts;
        posted = own_along k.entries.form k.geometry q (k.from q) txs (t ∷ txs) p.posted (λ n held. same n (omega (arith, (count_range p.stored_head p.doorbell n p.posted s.commands.posted_counts held).1, rung))) s.commands.posted;
        posted_counts = s.commands.posted_counts;
        failed = subst (λ cs. AreOwn k.entries.form k.geometry q (k.from q) (t ∷ txs) cs) (sym room.failed) tt;
        failed_counts = s.commands.failed_counts;
      };
      area = record {
        fits = rw kept room.area;
        limit = omega (arith, room.places);
        holds = rw kept (λ c place low d. rw (same c (omega (arith, d.rung, rung))) (s.area.holds c place low d));
      };
      based = rw kept s.based;
      done = s.done;
      direct = λ c x low d. rw (same c (omega (arith, d.rung, rung))) (s.direct c x low d);
      homes = s.homes;
    }

-- ---- more is known to be done

module _ (k : KnownJournal) (done : Tx → List Tx → Bool) (log : LogOk k) (more : DoneMore k.done done k.history) where
  abbrev pub done_known : KnownJournal
  done_known = record k { done = done }

  pub front_more : front k ≤ front done_known
  front_more = omega (arith, part_more k.done done k.history more)

  last_less : (x v : ℕ) → last k.base (upto (front done_known) k.history) x ≤ v → last k.base (upto (front k) k.history) x ≤ v
  last_less x v l = omega (arith, last_upto_more k.base (front k) (front done_known) k.history x log.numbers front_more)

  homes_more : (z : Option ℕ) (p : PortState) → AreHome k z p → AreHome done_known z p
  homes_more z p homes x v content block zone due there m = homes x v content block zone due there (last_less x v m)

  pub log_more : LogOk done_known
  log_more = record {
    entries = log.entries;
    numbers = log.numbers;
    limit = log.limit;
    word_low = log.word_low;
    word_high = omega (arith, log.word_high, front_more);
    due = λ x v due. omega (arith, log.due x v due, front_more);
    each = λ t ts at. (let e = log.each t ts at in (e.0, placed_front k done_known t ts refl refl front_more (omega arith) e.1));
  }

  pub side_more : (q : ℕ) (txs : List Tx) (p : PortState) → SideOk k q txs p → ((t : Tx) (ts : List Tx) → IsAt t ts k.history → t.queue ≡ q → done t ts ≡ true → end_of (k.from q) (of_queue q ts) + (writes t + descriptor_blocks t) ≤ p.head) → SideOk done_known q txs p
  side_more q txs p s known =
      side_moved k q txs p k.history done k.due k.word s (record {
        part = s.part;
        fits = s.area.fits;
        low = omega arith;
        based = s.based;
        done = known;
        change = last_less;
      }) (homes_more (Some q) p s.homes)

  pub root_more : (p : PortState) → RootOk k p → RootOk done_known p
  root_more p r = record { port = r.port; posted = r.posted; bases = r.bases; homes = homes_more None p r.homes }
