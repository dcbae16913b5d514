-- A commit on an open replica.
use Rattle.std.proofs.Common.{◌≡◌, ◌⊎◌, ℕ, ◌+◌, ◌≤◌, true, List, [], ◌∷◌, All, length, map, refl, sym, ap, subst, ◌∙◌, arith, inl, inr, None, Result, Ok, is_none}
use Rattle.std.proofs.Math.Logic.{∥∥₁_elim, ∥∥₁_map}
use Rattle.std.proofs.lemmas.Bool.{false≢true, lt-leb}
use Rattle.std.proofs.lemmas.List.{length-map}
use Rattle.std.proofs.lemmas.List.Elements.{All-map}
use Rattle.std.specs.Coded.{Coded-set, coded_bool, coded_ℕ, le_prop}
use Rattle.mq_blocks.specs.Descriptor.{AreRising}
use Rattle.mq_blocks.specs.Drive.{PortState, staged_end}
use Rattle.mq_blocks.specs.Geometry.{homes_of, write_limit}
use Rattle.mq_blocks.specs.Journal.{is_among, number_limit}
use Rattle.mq_blocks.specs.Journal.{or_else}
use Rattle.mq_blocks.specs.Machine.{Writes, write_of}
use Rattle.mq_blocks.proofs.JournalAmong.{among-here, among-behind}
use Rattle.mq_blocks.specs.declared.geometry.Geometry.{Geometry}
use Rattle.mq_ledger.specs.History.{blocks_of, of_queue}
use Rattle.mq_ledger.specs.KnownJournal.{MayDraw, draw_known}
use Rattle.mq_ledger.specs.declared.tx.Tx.{Tx}
use Rattle.mq_ledger.proofs.Written.{form_sound}
use Rattle.mq_pages.specs.declared.page.Write.{Write}
use Rattle.mq_queue_side.specs.Commits.{Commit, IsPlanOf, commit_by, commit_of_tx, descriptor_size, written_in}
use Rattle.mq_queue_side.specs.Side.{IsQueueSide, SideState}
use Rattle.mq_queue_side.specs.Stored.{FitIs, FitsArea, FitsRing, Row, next_in, places_in, rows_for, slots_in}
use Rattle.mq_queue_side.specs.declared.answers.Cause.{Cause}
use Rattle.mq_queue_side.specs.declared.answers.Fit.TheVariants.{Yes}
use Rattle.mq_revoke.specs.Placed.{Placed}
use Rattle.mq_replica.specs.Committing.{Commits}
use Rattle.mq_replica.specs.Contents.{AreSame, Contents, with_writes}
use Rattle.mq_replica.specs.Images.{StandsFor, StandsForEither}
use Rattle.mq_replica.specs.Opened.{IsOpened, OpenedState, contents_of, drive_over, known_over, logged_tx}
use Rattle.mq_replica.specs.Plans.{written_as}
use Rattle.mq_replica.proofs.Heads.{head_past, known_done, log_done, queue_done}
use Rattle.mq_replica.proofs.Journals.{covered_none, journal_then, may_commit, may_draw, opened_then, own_queue}
use Rattle.mq_replica.proofs.Maps.{contents_more}
use Rattle.mq_replica.proofs.OpenedStands.{all_but_stand, all_stand, opened_stands}
use Rattle.mq_replica.proofs.Served.{always_more}
use Rattle.mq_replica.proofs.Standing.{stands_once, stands_same}

abbrev pub blocks_in : List Write → List ℕ
blocks_in ws = map (λ w. w.block) ws

abbrev pub all_logged : List Write → Placed
all_logged ws = record { logged = blocks_in ws; direct = []; revoked = [] }

-- ---- the plan

-- a plan by which all is logged is one
pub plan_is : (homes : ℕ) (ws : List Write) → AreRising 0 homes (blocks_in ws) → IsPlanOf homes (blocks_in ws) (all_logged ws)
plan_is homes ws rising = record {
  rising = rising;
  logged = rising;
  direct = tt;
  revoked = tt;
  each = λ x. (λ y. inl y, λ cases. elim cases [ inl y ↦ y | inr n ↦ absurd (false≢true n) ]);
  apart = Rattle.mq_replica.proofs.Journals.apart_none (blocks_in ws);
  revokes = λ x n. absurd (false≢true n);
}

written_sub : (listed : List ℕ) (ws : List Write) → ((x : ℕ) → is_among x (blocks_in ws) ≡ true → is_among x listed ≡ true) → written_in listed ws ≡ map written_as ws
written_sub listed [] sub = refl
written_sub listed (w ∷ ws) sub = rw (sub w.block (among-here w.block (blocks_in ws))) (ap (λ (r : Writes). (w.block, w.content) ∷ r) (written_sub listed ws (λ x there. sub x (among-behind w.block x (blocks_in ws) there))))

written_none : (ws : List Write) → written_in [] ws ≡ []
written_none [] = refl
written_none (w ∷ ws) = written_none ws

-- what is prepared by it
pub commit_is : (number : ℕ) (ws : List Write) → commit_by (all_logged ws) ws ≡ commit_of_tx (logged_tx number (map written_as ws))
commit_is number ws = λ i. record { logged = written_sub (blocks_in ws) ws (λ x there. there) i; direct = written_none ws i; revoked = [] }

pub blocks_same : (ws : List Write) → blocks_of (map written_as ws) ≡ blocks_in ws
blocks_same [] = refl
blocks_same (w ∷ ws) = ap (λ (xs : List ℕ). w.block ∷ xs) (blocks_same ws)

pub whole_same : (ws : List Write) → All (λ w. length w.content ≡ 4096) ws → All (λ w. length w.1 ≡ 4096) (map written_as ws)
whole_same ws whole = All-map (λ w. length w.1 ≡ 4096) written_as ws whole

fit_yes : (area base : ℕ) (rows : List Row) (p : PortState) (plan : Placed) → FitsArea area base rows plan → FitsRing p plan → FitIs area base rows p plan Yes
fit_yes area base rows p plan in_area in_ring = record {
  area_lacks = (λ e. absurd (Rattle.mq_replica.proofs.Journals.not_area e), λ lacks. absurd (lacks in_area));
  ring_lacks = (λ e. absurd (Rattle.mq_replica.proofs.Journals.not_ring e), λ lacks. absurd (lacks.1 in_ring));
}

-- ---- what an open replica is

pub calm : (g : Geometry) (v : OpenedState) → ∥ IsOpened g v ∥₁ → is_none v.side.kept ≡ true
calm g v o = ∥∥₁_elim o (Coded-set coded_bool _ _) (λ is. ap (λ w. is_none w) is.settled.none)

pub first_queue : (g : Geometry) (v : OpenedState) → ∥ IsOpened g v ∥₁ → (v.side.queue ≡ 0) × (g.queues ≡ 1)
first_queue g v o = (∥∥₁_elim o (Coded-set coded_ℕ _ _) (λ is. is.journal.side.queue), ∥∥₁_elim o (Coded-set coded_ℕ _ _) (λ is. is.journal.one))

-- its geometry, as far as numbers go
pub shape_same : (g : Geometry) (v : OpenedState) → ∥ IsOpened g v ∥₁ → (f : Geometry → ℕ) → f v.side.geometry ≡ f g
shape_same g v o f = ∥∥₁_elim o (Coded-set coded_ℕ _ _) (λ is. ap f is.journal.side.geometry)

pub places_small : (g : Geometry) (v : OpenedState) (plan : Placed) → ∥ IsOpened g v ∥₁ → FitsArea g.area v.root.base v.rows plan → next_in v.rows + places_in plan ≤ 16384
places_small g v plan o fits = ∥∥₁_elim o le_prop (λ is.
    let none : Rattle.mq_queue_side.specs.Stored.covered_in v.root.base v.rows ≡ 0 = ap (λ (rs : List Row). Rattle.mq_queue_side.specs.Stored.covered_in v.root.base rs) is.journal.stored ∙ covered_none v.root.base is.journal.history is.journal.log.numbers in
    let high = g.area_high in
    omega (arith, fits, none, high))

pub prepared_is : (ws : List Write) (plan : Placed) (prepared : Commit) (number : ℕ) → plan ≡ all_logged ws → prepared ≡ commit_by plan ws → prepared ≡ commit_of_tx (logged_tx number (map written_as ws))
prepared_is ws plan prepared number planned is = is ∙ (ap (λ (p : Placed). commit_by p ws) planned ∙ commit_is number ws)

-- ---- a commit

module _ (g : Geometry) (v : OpenedState) (ws : List Write) (rising : AreRising 0 (homes_of g) (blocks_in ws)) (whole : All (λ w. length w.content ≡ 4096) ws) (few : length ws ≤ write_limit g) (low : v.number + 1 ≤ number_limit) (in_area : FitsArea g.area v.root.base v.rows (all_logged ws)) (in_ring : FitsRing v.side.port (all_logged ws)) (limit : staged_end v.side.port + slots_in (all_logged ws) ≤ number_limit) where
  abbrev pairs : Writes
  pairs = map written_as ws

  abbrev t : Tx
  t = logged_tx (v.number + 1) pairs

  size : length pairs ≡ length ws
  size = length-map ws written_as

  rising_pairs : AreRising 0 (homes_of g) (blocks_of pairs)
  rising_pairs = subst (λ (xs : List ℕ). AreRising 0 (homes_of g) xs) (sym (blocks_same ws)) rising

  whole_pairs : All (λ w. length w.1 ≡ 4096) pairs
  whole_pairs = whole_same ws whole

  few_pairs : length pairs ≤ write_limit g
  few_pairs = omega (arith, size, few)

  fit : FitIs g.area v.root.base v.rows v.side.port (record { logged = blocks_of pairs; direct = []; revoked = [] }) Yes
  fit = subst (λ (xs : List ℕ). FitIs g.area v.root.base v.rows v.side.port (record { logged = xs; direct = []; revoked = [] }) Yes) (sym (blocks_same ws)) (fit_yes g.area v.root.base v.rows v.side.port (all_logged ws) in_area in_ring)

  limit_pairs : staged_end v.side.port + (length pairs + 0 + Rattle.mq_ledger.specs.Items.descriptor_blocks t) ≤ number_limit
  limit_pairs =
      let n : length (blocks_in ws) ≡ length ws = length-map ws (λ (w : Write). w.block) in
      let f : descriptor_size (length (blocks_in ws)) 0 ≡ descriptor_size (length pairs) 0 = ap (λ (m : ℕ). descriptor_size m 0) (n ∙ sym size) in
      omega (arith, limit, n, size, f)

  -- on success all is done again
  pub opened_after : (o : IsOpened g v) (new : OpenedState) (n : ℕ) → Commits v.side v.rows (commit_of_tx t) (v.number + 1) (Ok n) new.side new.rows → new.root ≡ v.root → new.number ≡ v.number + 1 → new.side.kept ≡ None → IsOpened g new
  opened_after o new n commits root number none =
      let c = commits (known_over g o.journal.start v.root.base o.journal.from o.journal.history) t (may_commit g v o pairs rising_pairs whole_pairs few_pairs low fit limit_pairs) refl refl in
      opened_then g v o pairs rising_pairs whole_pairs few_pairs low new c.0 c.1 root number none n c.2

  same_contents : (o : IsOpened g v) (c : Contents) → StandsFor g (drive_over v) c → AreSame g c (contents_of o.journal.start o.journal.history)
  same_contents o c stands = stands_once g (drive_over v) c (contents_of o.journal.start o.journal.history) stands (opened_stands g v o form_sound)

  more_contents : (o : IsOpened g v) (c : Contents) → StandsFor g (drive_over v) c → AreSame g (with_writes pairs c) (contents_of o.journal.start (t ∷ o.journal.history))
  more_contents o c stands = λ x inside. contents_more o.journal.start t o.journal.history x refl refl ∙ ap (λ (b : List ℕ). or_else (write_of pairs x) b) (same_contents o c stands x inside)

  flip : (a b : Contents) → AreSame g a b → AreSame g b a
  flip a b same = λ x inside. sym (same x inside)

  -- and each image stands for the contents after the writes
  pub written_stands : (o : IsOpened g v) (new : OpenedState) (n : ℕ) → Commits v.side v.rows (commit_of_tx t) (v.number + 1) (Ok n) new.side new.rows → new.root ≡ v.root → new.number ≡ v.number + 1 → new.side.kept ≡ None → (c : Contents) → StandsFor g (drive_over v) c → StandsFor g (drive_over new) (with_writes pairs c)
  written_stands o new n commits root number none c stands =
      let k = commits (known_over g o.journal.start v.root.base o.journal.from o.journal.history) t (may_commit g v o pairs rising_pairs whole_pairs few_pairs low fit limit_pairs) refl refl in
      let j = journal_then g v o pairs rising_pairs whole_pairs few_pairs low new k.0 k.1 root number in
      let passed = subst (λ (us : List Tx). Rattle.mq_ledger.specs.Items.end_of o.journal.from (t ∷ us) ≤ new.side.port.head) (own_queue o.journal.history o.journal.logged) k.2.0 in
      stands_same g (drive_over new) (contents_of o.journal.start (t ∷ o.journal.history)) (with_writes pairs c) (flip (with_writes pairs c) (contents_of o.journal.start (t ∷ o.journal.history)) (more_contents o c stands))
      (all_stand g o.journal.start new.root.base o.journal.from (t ∷ o.journal.history) new.side.port new.root j.one j.full j.logged form_sound j.log j.side.side j.root_is passed)

  -- ---- where it was cut short

  may_done : (o : IsOpened g v) → MayDraw (known_done g o.journal.start v.root.base o.journal.from o.journal.history o.journal.logged o.journal.log) t
  may_done o = (let m = may_draw g v o pairs rising_pairs whole_pairs few_pairs low in record {
    form = m.form;
    number = m.number;
    limit = m.limit;
    freed = λ x none. absurd (false≢true none);
    free = λ x none. absurd (false≢true none);
    settled = λ x none. absurd (false≢true none);
    revoked = λ x none. absurd (false≢true none);
  })

  head_kept : (o : IsOpened g v) (new : SideState) (rows : List Row) (r : Result ℕ Cause) → Commits v.side v.rows (commit_of_tx t) (v.number + 1) r new rows → Rattle.mq_ledger.specs.Items.end_of o.journal.from o.journal.history ≤ new.port.head
  head_kept o new rows r commits =
      let j = o.journal in
      let m = may_commit g v o pairs rising_pairs whole_pairs few_pairs low fit limit_pairs in
      let own = own_queue j.history j.logged in
      let num = j.number_is in
      let k = known_done g j.start v.root.base j.from j.history j.logged j.log in
      let side : IsQueueSide k 0 (of_queue 0 j.history) v.side = subst (λ (us : List Tx). IsQueueSide k 0 us v.side) (sym own) (queue_done g j.start v.root.base j.from j.history j.logged j.log v.side j.side o.settled.passed) in
      let c = commits k t (record {
        log = log_done g j.start v.root.base j.from j.history j.logged j.log;
        form = refl;
        may = may_done o;
        new = lt-leb (v.number + 1) (v.root.base + length j.history) (omega (arith, num));
        queue = m.queue;
        room = m.room;
        side = side;
        rung = m.rung;
        stored_are = m.stored_are;
      }) refl refl in
      head_past g j.start v.root.base j.from j.history j.logged j.log t new.port (subst (λ (us : List Tx). Rattle.mq_ledger.specs.Sides.SideOk (draw_known t k) 0 (t ∷ us) new.port) own c.0.side) j.log.numbers

  pub cut_stands : (o : IsOpened g v) (new : OpenedState) (r : Result ℕ Cause) → Commits v.side v.rows (commit_of_tx t) (v.number + 1) r new.side new.rows → new.root ≡ v.root → new.number ≡ v.number + 1 → (c : Contents) → StandsFor g (drive_over v) c → StandsForEither g (drive_over new) c (with_writes pairs c)
  cut_stands o new r commits root number c stands =
      let k = commits (known_over g o.journal.start v.root.base o.journal.from o.journal.history) t (may_commit g v o pairs rising_pairs whole_pairs few_pairs low fit limit_pairs) refl refl in
      let j = journal_then g v o pairs rising_pairs whole_pairs few_pairs low new k.0 k.1 root number in
      let head = head_kept o new.side new.rows r commits in
      always_more g (drive_over new) (λ f. ∥ AreSame g (contents_of o.journal.start o.journal.history) f ⊎ AreSame g (contents_of o.journal.start (t ∷ o.journal.history)) f ∥₁) (λ f. ∥ AreSame g c f ⊎ AreSame g (with_writes pairs c) f ∥₁)
      (λ f one. ∥∥₁_map one (λ cases. elim cases [
        | inl old ↦ inl (λ x inside. old x inside ∙ same_contents o c stands x inside)
        | inr then ↦ inr (λ x inside. then x inside ∙ more_contents o c stands x inside)
      ]))
      (all_but_stand g o.journal.start new.root.base o.journal.from (t ∷ o.journal.history) new.side.port new.root j.one j.full j.logged form_sound j.log j.side.side j.root_is t o.journal.history refl head)

  -- its entries are rung
  pub written_entries : (o : IsOpened g v) (new : SideState) (rows : List Row) (n : ℕ) → Commits v.side v.rows (commit_of_tx t) (v.number + 1) (Ok n) new rows → new.port.doorbell ≡ v.side.port.doorbell + (length pairs + descriptor_size (length pairs) 0)
  written_entries o new rows n commits =
      let c = commits (known_over g o.journal.start v.root.base o.journal.from o.journal.history) t (may_commit g v o pairs rising_pairs whole_pairs few_pairs low fit limit_pairs) refl refl in
      let rung = c.2.1 in
      let old = o.settled.rung in
      let own = ap Rattle.mq_ledger.specs.Items.total (own_queue o.journal.history o.journal.logged) in
      omega (arith, rung, old, own)
