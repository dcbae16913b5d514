-- The queues' journal with one more commit.
use Rattle.std.proofs.Common.{◌≡◌, ℕ, ◌+◌, ◌<◌, ◌≤◌, ◌^◌, All, true, List, [], ◌∷◌, append-nil, length, Option, Some, None, is_some, sym, refl, ap, subst, ◌∙◌, inl, inr, arith}
use Rattle.std.proofs.lemmas.Bool.{cases_eq, false≢true}
use Rattle.std.proofs.lemmas.List.{length-map}
use Rattle.mq_blocks.specs.Descriptor.{AreApart, AreRising, DescriptorForm}
use Rattle.mq_blocks.specs.Drive.{PortState, staged_end}
use Rattle.mq_blocks.specs.Geometry.{homes_of}
use Rattle.mq_blocks.specs.Journal.{number_limit}
use Rattle.mq_blocks.specs.Machine.{Writes}
use Rattle.mq_blocks.specs.declared.geometry.Geometry.{Geometry}
use Rattle.mq_blocks.proofs.DescriptorLimits.{further-none, limit-low}
use Rattle.mq_core.proofs.KnownJournalGrowth.{log_drawn, root_drawn}
use Rattle.mq_core.proofs.KnownJournalSources.{among_below}
use Rattle.mq_core.specs.Events.{HasRoom}
use Rattle.mq_ledger.specs.History.{AreNumbered, blocks_of, map_after, of_queue, IsAt}
use Rattle.mq_ledger.specs.Items.{descriptor_blocks, next, place_for, total}
use Rattle.mq_ledger.specs.KnownJournal.{IsTx, KnownJournal, LogOk, MayDraw}
use Rattle.mq_ledger.specs.Sides.{RootOk}
use Rattle.mq_ledger.specs.State.{State, start_map}
use Rattle.mq_ledger.specs.Written.{journal_entries}
use Rattle.mq_ledger.specs.declared.tx.Tx.{Tx}
use Rattle.mq_ledger.proofs.Items.{of_queue-other, of_queue-own}
use Rattle.mq_loose.specs.Safe.{IsPlain}
use Rattle.mq_loose.proofs.Events.{more_texts}
use Rattle.mq_loose.proofs.Forms.{AreSameTexts, formed, log_formed, root_formed, side_formed}
use Rattle.mq_loose.proofs.RowLists.{length-rows}
use Rattle.mq_loose_order.specs.Dependence.{deps_of}
use Rattle.mq_loose_order.specs.Form.{loose_form}
use Rattle.mq_queue_side.specs.Side.{IsQueueSide, IsRung}
use Rattle.mq_queue_side.specs.Stored.{FitIs, FitsArea, FitsRing, Row, next_in, rows_for}
use Rattle.mq_queue_side.specs.declared.answers.Fit.{Fit}
use Rattle.mq_queue_side.specs.declared.answers.Fit.TheVariants.{Area, Ring, Yes}
use Rattle.mq_queue_side.proofs.SideDraws.{drawn, fitting, next_is, others_drawn}
use Rattle.mq_queue_side.proofs.SideSends.{none_kept}
use Rattle.mq_revoke.specs.Guard.{placed_of}
use Rattle.mq_revoke.specs.Placed.{Placed}
use Rattle.mq_loose_queues.specs.Changes.{change_at}
use Rattle.mq_loose_queues.specs.Commits.{IsRequest, MayCommit}
use Rattle.mq_loose_queues.specs.Journal.{IsJournal, known_over, loose_tx}
use Rattle.mq_loose_queues.specs.Queues.{QueuesState, at_queue, next_number}

pub apart_none : (xs : List ℕ) → AreApart xs []
apart_none [] = tt
apart_none (x ∷ xs) = (tt, apart_none xs)

abbrev is_yes : Fit → Type 0
is_yes Yes = Unit {0}
is_yes Ring = ⊥
is_yes Area = ⊥

-- what fits into area and ring
fits_both : (area base : ℕ) (rows : List Row) (p : PortState) (plan : Placed) → FitsArea area base rows plan → FitsRing p plan → FitIs area base rows p plan Yes
fits_both area base rows p plan a r = record {
  area_lacks = (λ e. absurd (subst (λ (f : Fit). is_yes f) e tt), λ no. absurd (no a));
  ring_lacks = (λ e. absurd (subst (λ (f : Fit). is_yes f) e tt), λ no. absurd (no.1 r));
}

some_of : {A : Type 0} (o : Option A) → is_some o ≡ true → (x : A) × (o ≡ Some x)
some_of (Some x) e = (x, refl)
some_of None e = absurd (false≢true e)

-- where nothing is written directly, a queue's entries are as many as its places
entries_are : (q : ℕ) (h : List Tx) → ((t : Tx) (ts : List Tx) → IsAt t ts h → IsPlain t) → total (of_queue q h) ≡ next (of_queue q h)
entries_are q [] plain = refl
entries_are q (t ∷ ts) plain =
    let rest = entries_are q ts (λ u us at. plain u us (inr at)) in
    let none : length t.direct ≡ 0 = ap (λ (ws : Writes). length ws) (plain t ts (inl (refl, refl))).direct in
    elim (cases_eq t.queue q) [
      | inl own ↦ (let is = of_queue-own q t ts own in let a = ap total is in let b = ap next is in omega (arith, rest, none, a, b))
      | inr other ↦ (let is = of_queue-other q t ts other in let a = ap total is in let b = ap next is in omega (arith, rest, a, b))
    ]

module _ (s : State) (h : List Tx) (v : QueuesState) (q : ℕ) (ws : Writes) (frees : List ℕ) (j : IsJournal s h v) (request : IsRequest v q ws frees) (whole : All (λ w. length w.1 ≡ 4096) ws) (may : MayCommit v q (length ws) (length frees)) (few : length v.rows < 2 ^ 62) where
  abbrev t : Tx
  t = loose_tx (next_number v) q ws frees

  abbrev k : KnownJournal
  k = known_over s h

  -- the form that descriptors have then
  abbrev form : DescriptorForm
  form = loose_form (deps_of s.base (t ∷ h))

  abbrev k1 : KnownJournal
  k1 = formed form k

  abbrev us : List Tx
  us = of_queue q h

  word : v.root.base ≡ s.base
  word = ap (λ (p : PortState). p.base) j.root_is ∙ j.start.base

  pub own : q < s.geometry.queues
  own = omega (arith, request.queue, ap (λ (g : Geometry). g.queues) j.geometry)

  pub number_is : t.number ≡ s.base + length h + 1
  number_is = (let rows = length-rows s.base s.starts h v.rows j.rows in omega (arith, word, rows))

  pub numbers : AreNumbered s.base (t ∷ h)
  numbers = (number_is, j.log.numbers)

  texts : AreSameTexts k.entries.form form h
  texts = more_texts journal_entries (record s { history = h }) t numbers

  pub log1 : LogOk k1
  log1 = log_formed k form texts j.log

  pub side1 : (r : ℕ) → r < s.geometry.queues → IsQueueSide k1 r (of_queue r h) (at_queue v r).side
  side1 r inside =
      let is = j.sides r inside in
      record {
        geometry = is.geometry;
        queue = is.queue;
        entries = refl;
        side = side_formed k form texts r (of_queue r h) (at_queue v r).side.port is.side;
        passed = is.passed;
        rung = is.rung;
        last = is.last;
        done = is.done;
        kept = is.kept;
      }

  rising : AreRising 0 (homes_of s.geometry) (blocks_of ws)
  rising = subst (λ g. AreRising 0 (homes_of g) (blocks_of ws)) j.geometry request.writes

  frees_rise : AreRising 0 (homes_of s.geometry) frees
  frees_rise = subst (λ g. AreRising 0 (homes_of g) frees) j.geometry request.frees_rise

  is_tx : IsTx s.geometry t
  is_tx = record {
    queue = own;
    logged = rising;
    direct = tt;
    revoked = tt;
    freed = frees_rise;
    whole = subst (λ (xs : Writes). All (λ w. length w.1 ≡ 4096) xs) (sym (append-nil ws)) whole;
    few = (let low = limit-low s.geometry in omega (arith, low, may.few));
    apart = apart_none (blocks_of ws);
    kept = subst (λ (xs : Writes). AreApart frees (blocks_of xs)) (sym (append-nil ws)) request.apart;
    zoned = λ x none. absurd (false≢true none);
    revokes = λ x none. absurd (false≢true none);
  }

  pub may_draw : MayDraw k1 t
  may_draw = record {
    form = is_tx;
    number = number_is;
    limit = (let rows = length-rows s.base s.starts h v.rows j.rows in let low = j.low.base in omega (arith, number_is, rows, few, low));
    freed = λ x among.
        let inside = among_below 0 (homes_of s.geometry) frees x frees_rise among in
        let there = subst (λ b. (change_at b v.changes x).is_there ≡ true) word (request.there x among) in
        some_of (map_after (start_map s.start) h x) (sym (j.changes.there x inside) ∙ there);
    free = λ x none. absurd (false≢true none);
    settled = λ x none. absurd (false≢true none);
    revoked = λ x none. absurd (false≢true none);
  }

  pub rung : IsRung k1 q us (at_queue v q).side
  rung = j.rung q own may.runs

  pub room : HasRoom s.geometry (k1.from q) s.base us t (at_queue v q).side.port
  room =
      let side = side1 q own in
      let rows : next_in (at_queue v q).rows ≡ next us = ap next_in (j.stored q own) ∙ next_is us in
      let behind = next_is us in
      let area = may.area in
      let size = ap (λ (g : Geometry). g.area) j.geometry in
      let most = s.geometry.area_high in
      let logged : length (blocks_of ws) ≡ length ws = length-map ws (λ (w : ℕ × List ℕ). w.0) in
      let one = further-none (length (blocks_of ws) + 0) (omega (arith, logged, may.few)) in
      let plain_one = further-none (length ws + 0) (omega (arith, may.few)) in
      let fits : FitsArea s.geometry.area s.base (rows_for us) (placed_of t) = omega (arith, area, rows, behind, size, logged, one) in
      let ring : FitsRing (at_queue v q).side.port (placed_of t) = omega (arith, may.ring, logged, one) in
      let places : place_for t us < 2 ^ 62 = (let top : 16384 + 1 < 2 ^ 62 = omega arith in omega (arith, area, rows, size, most, plain_one, top)) in
      let entries = entries_are q h j.plain in
      let low = j.low.rung q own in
      let quiet = none_kept (k1.from q) us (at_queue v q).side.port.failed (at_queue v q).side.port.pending (at_queue v q).side.port.doorbell (at_queue v q).side.kept may.runs side.kept in
      let empty : length (at_queue v q).side.port.pending ≡ 0 = ap length quiet.1 in
      let limit : staged_end (at_queue v q).side.port + (length ws + 0 + descriptor_blocks t) ≤ number_limit = (let top : 2 ^ 62 + 16384 + 1 ≤ 2 ^ 63 = omega arith in omega (arith, rung, empty, entries, low, area, rows, size, most, plain_one, top)) in
      fitting k1 t us (at_queue v q).side s.base side may.runs rung (omega arith) (fits_both s.geometry.area s.base (rows_for us) (at_queue v q).side.port (placed_of t) fits ring) places limit

  -- after the draw, each side is one of the journal with the transaction
  pub log_then : LogOk (known_over s (t ∷ h))
  log_then = log_drawn k1 t log1 may_draw refl

  pub own_then : IsQueueSide (known_over s (t ∷ h)) q (t ∷ us) (at_queue v q).side
  own_then = drawn k1 t (at_queue v q).side log1 may_draw refl may.runs room (side1 q own)

  pub other_then : (r : ℕ) → r < s.geometry.queues → IsQueueSide (known_over s (t ∷ h)) r (of_queue r h) (at_queue v r).side
  other_then r inside = others_drawn k1 t r (of_queue r h) (at_queue v r).side log1 number_is refl (side1 r inside)

  pub root_then : RootOk (known_over s (t ∷ h)) s.root
  root_then = root_drawn k1 t log1 number_is refl s.root (root_formed k form texts s.root j.root)
