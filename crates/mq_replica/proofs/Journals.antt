-- The journal of an open replica, and one transaction more.
use Rattle.std.proofs.Common.{◌≡◌, ◌⊎◌, ℕ, ◌+◌, ◌-◌, ◌<◌, ◌≤◌, ◌^◌, true, false, eqb, List, [], ◌∷◌, ◌++◌, All, length, map, append-nil, length-append, refl, sym, ap, subst, ◌∙◌, arith, inl, inr, Result, Ok, Err, None, OnOk}
use Rattle.std.proofs.lemmas.Bool.{cases_lt, eq-eqb, false≢true, lt-leb}
use Rattle.std.proofs.lemmas.List.{length-map}
use Rattle.mq_blocks.specs.Descriptor.{further_for}
use Rattle.mq_blocks.specs.Descriptor.{AreApart, AreRising}
use Rattle.mq_blocks.specs.Drive.{PortState, staged_end}
use Rattle.mq_blocks.specs.Geometry.{homes_of, write_limit}
use Rattle.mq_blocks.specs.Journal.{number_limit}
use Rattle.mq_blocks.specs.Machine.{Writes}
use Rattle.mq_blocks.specs.declared.geometry.Geometry.{Geometry}
use Rattle.mq_desk_laws.proofs.BasesOpenings.{base_due}
use Rattle.mq_desk_laws.specs.Bases.{BaseOk, RootStands}
use Rattle.mq_core.proofs.KnownJournalGrowth.{log_drawn, root_drawn}
use Rattle.mq_core.specs.Events.{HasRoom}
use Rattle.mq_ledger.specs.History.{AreNumbered, blocks_of, of_queue}
use Rattle.mq_ledger.specs.Items.{end_of, descriptor_blocks, place_for}
use Rattle.mq_ledger.specs.KnownJournal.{IsTx, KnownJournal, LogOk, MayDraw, draw_known}
use Rattle.mq_ledger.specs.declared.tx.Tx.{Tx}
use Rattle.mq_queue_side.specs.Side.{IsQueueSide}
use Rattle.mq_queue_side.specs.Stored.{FitIs, FitsArea, Row, covered_in, next_in, places_in, rows_for}
use Rattle.mq_queue_side.specs.declared.answers.Fit.{Fit}
use Rattle.mq_queue_side.specs.declared.answers.Fit.TheVariants.{Area, Ring, Yes}
use Rattle.mq_queue_side.proofs.SideDraws.{fitting, next_is}
use Rattle.mq_revoke.specs.Guard.{placed_of}
use Rattle.mq_revoke.specs.Placed.{Placed}
use Rattle.mq_replica.specs.Committing.{IsCommitted, MayCommit}
use Rattle.mq_replica.specs.Opened.{AreLogged, IsJournal, IsOpened, IsSettled, OpenedState, known_over, logged_tx}

-- all of them are on queue 0
pub own_queue : (h : List Tx) → AreLogged h → of_queue 0 h ≡ h
own_queue [] are = refl
own_queue (t ∷ ts) are = rw (eq-eqb t.queue 0 are.0) (ap (λ (us : List Tx). t ∷ us) (own_queue ts are.3))

pub apart_none : (xs : List ℕ) → AreApart xs []
apart_none [] = tt
apart_none (x ∷ xs) = (tt, apart_none xs)

-- a transaction of which all is logged
pub logged_is_tx : (g : Geometry) (number : ℕ) (ws : Writes) → g.queues ≡ 1 → AreRising 0 (homes_of g) (blocks_of ws) → All (λ w. length w.1 ≡ 4096) ws → length ws ≤ write_limit g → IsTx g (logged_tx number ws)
logged_is_tx g number ws one rising whole few = record {
  queue = omega (arith, one);
  logged = rising;
  direct = tt;
  revoked = tt;
  freed = tt;
  whole = subst (λ (xs : Writes). All (λ w. length w.1 ≡ 4096) xs) (sym (append-nil ws)) whole;
  few = omega (arith, few);
  apart = apart_none (blocks_of ws);
  kept = tt;
  zoned = λ x none. absurd (false≢true none);
  revokes = λ x none. absurd (false≢true none);
}

-- the base is one, since the whole map at the base is due at home
pub base_is : (g : Geometry) (start : List (Rattle.std.proofs.Common.Option (List ℕ))) (base from : ℕ) (h : List Tx) → LogOk (known_over g start base from h) → BaseOk (known_over g start base from h) base
base_is g start base from h log = base_due (known_over g start base from h) base log (omega arith) log.word_high (λ x. eq-eqb base base refl)

pub root_again : (g : Geometry) (start : List (Rattle.std.proofs.Common.Option (List ℕ))) (from : ℕ) (h : List Tx) (t : Tx) (root : PortState) → LogOk (known_over g start root.base from h) → LogOk (known_over g start root.base from (t ∷ h)) → root.stored_base ≡ root.base → t.number ≡ root.base + length h + 1 → RootStands (known_over g start root.base from h) root → RootStands (known_over g start root.base from (t ∷ h)) root
root_again g start from h t root log then same number is =
    let ok = base_is g start root.base from (t ∷ h) then in
    record {
      port = root_drawn (known_over g start root.base from h) t log number refl root is.port;
      flushed = ok;
      stored = subst (λ (b : ℕ). BaseOk (known_over g start root.base from (t ∷ h)) b) (sym same) ok;
    }

-- no row is covered by the base
pub covered_none : (base : ℕ) (h : List Tx) → AreNumbered base h → covered_in base (rows_for h) ≡ 0
covered_none base [] are = refl
covered_none base (t ∷ ts) are = rw (lt-leb t.number base (let e = are.0 in omega (arith, e))) (covered_none base ts are.1)

abbrev is_yes : Fit → Type 0
is_yes Yes = Unit {0}
is_yes Ring = ⊥
is_yes Area = ⊥

pub not_area : Yes ≡ Area → ⊥
not_area e = subst (λ (f : Fit). is_yes f) e tt

pub not_ring : Yes ≡ Ring → ⊥
not_ring e = subst (λ (f : Fit). is_yes f) e tt

pub area_fits : (area base : ℕ) (rows : List Row) (p : PortState) (plan : Placed) → FitIs area base rows p plan Yes → FitsArea area base rows plan
area_fits area base rows p plan fit = elim (cases_lt (covered_in base rows + area) (next_in rows + places_in plan)) [
  | inl over ↦ absurd (not_area (fit.area_lacks.1 (λ l. omega (arith, l, over))))
  | inr low ↦ low
]

-- ---- a transaction more

module _ (g : Geometry) (v : OpenedState) (o : IsOpened g v) (ws : Writes) (rising : AreRising 0 (homes_of g) (blocks_of ws)) (whole : All (λ w. length w.1 ≡ 4096) ws) (few : length ws ≤ write_limit g) (low : v.number + 1 ≤ number_limit) where
  abbrev j : IsJournal g v
  j = o.journal

  abbrev k : KnownJournal
  k = known_over g j.start v.root.base j.from j.history

  abbrev t : Tx
  t = logged_tx (v.number + 1) ws

  pub number_next : v.number + 1 ≡ v.root.base + length j.history + 1
  number_next = let e = j.number_is in omega (arith, e)

  pub may_draw : MayDraw k t
  may_draw = record {
    form = logged_is_tx g (v.number + 1) ws j.one rising whole few;
    number = number_next;
    limit = low;
    freed = λ x none. absurd (false≢true none);
    free = λ x none. absurd (false≢true none);
    settled = λ x none. absurd (false≢true none);
    revoked = λ x none. absurd (false≢true none);
  }

  pub own : of_queue 0 j.history ≡ j.history
  own = own_queue j.history j.logged

  pub has_room : FitIs g.area v.root.base v.rows v.side.port (placed_of t) Yes → staged_end v.side.port + (length ws + 0 + descriptor_blocks t) ≤ number_limit → HasRoom g j.from v.root.base j.history t v.side.port
  has_room fit limit =
      let fit' : FitIs g.area v.root.base (rows_for j.history) v.side.port (placed_of t) Yes = subst (λ (rs : List Row). FitIs g.area v.root.base rs v.side.port (placed_of t) Yes) j.stored fit in
      fitting k t j.history v.side v.root.base j.side o.settled.none o.settled.rung (omega arith) fit' (places_low fit') limit
    where
      places_low : FitIs g.area v.root.base (rows_for j.history) v.side.port (placed_of t) Yes → place_for t j.history < 2 ^ 62
      places_low fit =
          let fits = area_fits g.area v.root.base (rows_for j.history) v.side.port (placed_of t) fit in
          let none = covered_none v.root.base j.history j.log.numbers in
          let at = next_is j.history in
          let size : length (blocks_of ws) ≡ length ws = length-map ws (λ (w : ℕ × List ℕ). w.0) in
          let same : further_for (length (blocks_of ws) + 0) ≡ further_for (length ws + 0) = ap (λ (n : ℕ). further_for (n + 0)) size in
          let high = g.area_high in
          let top : 16384 + 1 < 2 ^ 62 = omega arith in
          omega (arith, fits, none, at, size, same, high, top)

  pub may_commit : FitIs g.area v.root.base v.rows v.side.port (placed_of t) Yes → staged_end v.side.port + (length ws + 0 + descriptor_blocks t) ≤ number_limit → MayCommit k t v.side v.rows
  may_commit fit limit = record {
    log = j.log;
    form = refl;
    may = may_draw;
    new = refl;
    queue = sym j.side.queue;
    room = subst (λ (us : List Tx). HasRoom g j.from v.root.base us t v.side.port) (sym own) (has_room fit limit);
    side = subst (λ (us : List Tx). IsQueueSide k 0 us v.side) (sym own) j.side;
    rung = subst (λ (us : List Tx). v.side.port.doorbell ≡ end_of j.from us) (sym own) o.settled.rung;
    stored_are = j.stored ∙ ap rows_for (sym own);
  }

  -- what is left of it, where it was committed, or was cut short
  abbrev pub journal_then : (new : OpenedState) → IsQueueSide (draw_known t k) 0 (t ∷ of_queue 0 j.history) new.side → new.rows ≡ rows_for (t ∷ of_queue 0 j.history) → new.root ≡ v.root → new.number ≡ v.number + 1 → IsJournal g new
  journal_then new side rows same_root number =
      let log = log_drawn k t j.log may_draw refl in
      let stands = root_again g j.start j.from j.history t v.root j.log log j.idle.quiet.quiet.base number_next j.root_is in
      let l = j.number_is in
      record {
        one = j.one;
        start = j.start;
        from = j.from;
        history = t ∷ j.history;
        whole = j.whole;
        full = j.full;
        logged = (refl, refl, refl, j.logged);
        number_is = (let b = ap (λ (p : PortState). p.base) same_root in omega (arith, number, l, b));
        log = subst (λ (p : PortState). LogOk (known_over g j.start p.base j.from (t ∷ j.history))) (sym same_root) log;
        side = subst (λ (p : PortState). IsQueueSide (known_over g j.start p.base j.from (t ∷ j.history)) 0 (t ∷ j.history) new.side) (sym same_root) (subst (λ (us : List Tx). IsQueueSide (draw_known t k) 0 (t ∷ us) new.side) own side);
        stored = rows ∙ ap (λ (us : List Tx). rows_for (t ∷ us)) own;
        root_is = subst (λ (p : PortState). RootStands (known_over g j.start p.base j.from (t ∷ j.history)) p) (sym same_root) stands;
        idle = subst (λ (p : PortState). Rattle.mq_replica.specs.Opened.IsRootIdle g p) (sym same_root) j.idle;
      }

  abbrev pub opened_then : (new : OpenedState) → IsQueueSide (draw_known t k) 0 (t ∷ of_queue 0 j.history) new.side → new.rows ≡ rows_for (t ∷ of_queue 0 j.history) → new.root ≡ v.root → new.number ≡ v.number + 1 → new.side.kept ≡ None → (n : ℕ) → IsCommitted k t new.side (Ok n) → IsOpened g new
  opened_then new side rows same_root number none n done = record {
    journal = journal_then new side rows same_root number;
    settled = record {
      none = none;
      rung = done.1 ∙ ap (λ (us : List Tx). end_of j.from (t ∷ us)) own;
      passed = subst (λ (us : List Tx). end_of j.from (t ∷ us) ≤ new.side.port.head) own done.0;
    };
  }
