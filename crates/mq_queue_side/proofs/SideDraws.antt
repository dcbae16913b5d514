-- A draw, and whoever else draws, keeps a side.
use Rattle.std.proofs.Common.{◌≡◌, ℕ, ◌+◌, ◌-◌, ◌<◌, ◌≤◌, ◌^◌, false, List, [], ◌∷◌, length, Option, None, sym, refl, ap, subst, ◌∙◌, inl, inr, arith}
use Rattle.std.proofs.lemmas.Bool.{cases_lt, le-leb, lt-leb}
use Rattle.std.proofs.lemmas.List.{length-map}
use Rattle.mq_blocks.specs.Descriptor.{further_for}
use Rattle.mq_blocks.specs.Limits.{usable_depth}
use Rattle.mq_blocks.specs.Drive.{PortState, staged_end}
use Rattle.mq_blocks.specs.Journal.{number_limit}
use Rattle.mq_ledger.specs.History.{blocks_of, writes, upto, of_queue, IsPart}
use Rattle.mq_ledger.specs.Items.{next, number_before, place_for, descriptor_blocks, Entries}
use Rattle.mq_ledger.specs.KnownJournal.{KnownJournal, LogOk, MayDraw, draw_known}
use Rattle.mq_ledger.specs.Sides.{SideOk}
use Rattle.mq_ledger.specs.Written.{entries_of}
use Rattle.mq_ledger.specs.declared.tx.Tx.{Tx}
use Rattle.mq_ledger.proofs.Items.{of_queue-own}
use Rattle.mq_core.specs.Events.{HasRoom}
use Rattle.mq_core.proofs.HistoryBases.{next_upto_more}
use Rattle.mq_core.proofs.KnownJournalGrowth.{side_drawn, side_extends, front_low}
use Rattle.mq_pmr.specs.Rungs.{last_end}
use Rattle.mq_pmr.specs.declared.rungs.Rung.{Rung}
use Rattle.mq_revoke.specs.Guard.{placed_of}
use Rattle.mq_revoke.specs.Placed.{Placed}
use Rattle.mq_queue_side.specs.Laws.{IsFresh}
use Rattle.mq_queue_side.specs.Side.{SideState, IsQueueSide, IsRung, AreRungsOf, IsKept}
use Rattle.mq_queue_side.specs.Stored.{Row, rows_for, next_in, newest_in, covered_in, places_in, slots_in, FitsArea, FitsRing, FitIs}
use Rattle.mq_queue_side.specs.declared.answers.Fit.{Fit}
use Rattle.mq_queue_side.specs.declared.answers.Fit.TheVariants.{Yes, Ring, Area}
use Rattle.mq_queue_side.specs.declared.answers.Why.{Why}
use Rattle.mq_queue_side.proofs.SideEnds.{done_later}
use Rattle.mq_queue_side.proofs.SideRungs.{rungs_later, passed_later}
use Rattle.mq_queue_side.proofs.SideSends.{none_kept}

-- whoever draws
pub others_drawn : (k : KnownJournal) (t : Tx) (q : ℕ) (us : List Tx) (s : SideState) → LogOk k → t.number ≡ k.base + length k.history + 1 → k.done t k.history ≡ false → IsQueueSide k q us s → IsQueueSide (draw_known t k) q us s
others_drawn k t q us s log number new is = record {
  geometry = is.geometry;
  queue = is.queue;
  entries = is.entries;
  side = side_drawn k t log number new q us s.port is.side;
  passed = is.passed;
  rung = is.rung;
  last = is.last;
  done = is.done;
  kept = is.kept;
}

-- the side's own draw
pub drawn : (k : KnownJournal) (t : Tx) (s : SideState) → LogOk k → MayDraw k t → k.done t k.history ≡ false → s.kept ≡ None → HasRoom k.geometry (k.from t.queue) k.word (of_queue t.queue k.history) t s.port → IsQueueSide k t.queue (of_queue t.queue k.history) s
    → IsQueueSide (draw_known t k) t.queue (t ∷ of_queue t.queue k.history) s
drawn k t s log may new none room is =
    let q : ℕ = t.queue in
    let us : List Tx = of_queue q k.history in
    let o = others_drawn k t q us s log may.number new is in
    let part : IsPart (t ∷ us) (of_queue q (t ∷ k.history)) = ([], of_queue-own q t k.history refl) in
    let low = front_low k in
    let above : k.word < t.number = (let n = may.number in let w = log.word_high in omega (arith, n, w, low)) in
    record {
      geometry = is.geometry;
      queue = is.queue;
      entries = is.entries;
      side = side_extends (draw_known t k) q t us s.port part above o.side room;
      passed = passed_later (k.from q) t us s.passed is.passed;
      rung = rungs_later (k.from q) t us s.passed.end s.rung is.rung;
      last = is.last;
      done = done_later (k.from q) t us s.port.head s.done is.done;
      kept = subst (λ (w : Option (ℕ × Why)). IsKept (k.from q) (t ∷ us) s.port.failed s.port.pending s.port.doorbell w) (sym none) (none_kept (k.from q) us s.port.failed s.port.pending s.port.doorbell s.kept none is.kept);
    }

-- ---- room

abbrev is_yes : Fit → Type 0
is_yes Yes = Unit {0}
is_yes Ring = ⊥
is_yes Area = ⊥

yes_area : Yes ≡ Area → ⊥
yes_area e = subst (λ (f : Fit). is_yes f) e tt

yes_ring : Yes ≡ Ring → ⊥
yes_ring e = subst (λ (f : Fit). is_yes f) e tt

fits_area : (area base : ℕ) (rows : List Row) (p : PortState) (plan : Placed) → FitIs area base rows p plan Yes → FitsArea area base rows plan
fits_area area base rows p plan fit = elim (cases_lt (covered_in base rows + area) (next_in rows + places_in plan)) [
  | inl less ↦ absurd (yes_area (fit.area_lacks.1 (λ fits. omega (arith, less, fits))))
  | inr fits ↦ fits
]

pub fits_ring : (area base : ℕ) (rows : List Row) (p : PortState) (plan : Placed) → FitIs area base rows p plan Yes → FitsRing p plan
fits_ring area base rows p plan fit = elim (cases_lt (usable_depth - (staged_end p - p.head)) (slots_in plan)) [
  | inl less ↦ absurd (yes_ring (fit.ring_lacks.1 (fits_area area base rows p plan fit, λ fits. omega (arith, less, fits))))
  | inr fits ↦ fits
]

-- the place up to which a base covers all
pub covered_is : (base : ℕ) (us : List Tx) → covered_in base (rows_for us) ≡ next (upto base us)
covered_is base [] = refl
covered_is base (t ∷ ts) = elim (cases_lt base t.number) [
  | inl past ↦ rw (lt-leb t.number base past) (covered_is base ts)
  | inr at ↦ rw (le-leb t.number base at) refl
]

pub next_is : (us : List Tx) → next_in (rows_for us) ≡ next us
next_is [] = refl
next_is (t ∷ ts) = refl

pub newest_is : (us : List Tx) → newest_in (rows_for us) ≡ number_before us
newest_is [] = refl
newest_is (t ∷ ts) = refl

-- what fits has room
pub fitting : (k : KnownJournal) (t : Tx) (us : List Tx) (s : SideState) (base : ℕ) → IsQueueSide k t.queue us s → s.kept ≡ None → IsRung k t.queue us s → base ≤ k.word → FitIs k.geometry.area base (rows_for us) s.port (placed_of t) Yes
    → place_for t us < 2 ^ 62 → staged_end s.port + (writes t + descriptor_blocks t) ≤ number_limit → HasRoom k.geometry (k.from t.queue) k.word us t s.port
fitting k t us s base is none rung low fit places limit =
    let quiet = none_kept (k.from t.queue) us s.port.failed s.port.pending s.port.doorbell s.kept none is.kept in
    let empty : length s.port.pending ≡ 0 = ap length quiet.1 in
    let logged : length (blocks_of t.logged) ≡ length t.logged = length-map t.logged (λ (w : ℕ × List ℕ). w.0) in
    let direct : length (blocks_of t.direct) ≡ length t.direct = length-map t.direct (λ (w : ℕ × List ℕ). w.0) in
    let same : further_for (length (blocks_of t.logged) + length t.revoked) ≡ further_for (length t.logged + length t.revoked) = ap (λ (n : ℕ). further_for (n + length t.revoked)) logged in
    let area = fits_area k.geometry.area base (rows_for us) s.port (placed_of t) fit in
    let ring = fits_ring k.geometry.area base (rows_for us) s.port (placed_of t) fit in
    let covered = covered_is base us in
    let at = next_is us in
    let more = next_upto_more base k.word us low in
    record {
      rung = rung;
      failed = quiet.0;
      ring = omega (arith, ring, logged, direct, same);
      area = omega (arith, area, logged, covered, at, more, same);
      places = places;
      limit = omega (arith, rung, limit, empty);
    }

-- ---- where it begins

-- a side on which nothing was drawn
pub opened : (k : KnownJournal) (q : ℕ) (s : SideState) → IsFresh s → s.geometry ≡ k.geometry → s.queue ≡ q → k.entries ≡ entries_of k.entries.form → s.port.doorbell ≡ k.from q → SideOk k q [] s.port → IsQueueSide k q [] s
opened k q s fresh geometry queue entries bell side = record {
  geometry = geometry;
  queue = queue;
  entries = entries;
  side = side;
  passed = inl (ap (λ (r : Rung). r.tx) fresh.passed, ap (λ (r : Rung). r.end) fresh.passed ∙ bell);
  rung = subst (λ (rs : List Rung). AreRungsOf (k.from q) [] s.passed.end rs) (sym fresh.rung) tt;
  last = (λ i. last_end (fresh.passed i).end (fresh.rung i));
  done = inl fresh.done;
  kept = subst (λ (w : Option (ℕ × Why)). IsKept (k.from q) [] s.port.failed s.port.pending s.port.doorbell w) (sym fresh.kept) (fresh.failed, fresh.pending);
}

-- ---- what is known changes otherwise

-- a side is one for whatever is known of the journal, if its port's facts are: nothing else depends on the
-- rest
pub side_along : (k l : KnownJournal) (q : ℕ) (us : List Tx) (s : SideState) → l.geometry ≡ k.geometry → l.entries ≡ k.entries → l.from q ≡ k.from q → SideOk l q us s.port → IsQueueSide k q us s → IsQueueSide l q us s
side_along k l q us s geometry entries from side is = record {
  geometry = is.geometry ∙ sym geometry;
  queue = is.queue;
  entries = entries ∙ is.entries ∙ ap (λ (e : Entries). entries_of e.form) (sym entries);
  side = side;
  passed = rw from is.passed;
  rung = rw from is.rung;
  last = is.last;
  done = rw from is.done;
  kept = rw from is.kept;
}
