-- A group that was done on a map does there what its entry says, and may be drawn.
use Rattle.std.proofs.Common.{◌≡◌, ◌↔◌, ℕ, suc, ◌+◌, ◌<◌, ◌≤◌, true, false, List, [], ◌∷◌, ◌++◌, length, map, Option, Some, None, is_none, refl, sym, ap, subst, ◌∙◌, inl, inr, arith}
use Rattle.std.specs.Str.{bytes_eq}
use Rattle.std.specs.List.{All, AllPairs, Contains}
use Rattle.std.proofs.lemmas.Bool.{cases_Bool, true≢false, false≢true}
use Rattle.std.proofs.lemmas.List.Elements.{All-append, All-cons, All-nil}
use Rattle.std.proofs.lemmas.Slice.Eq.{bytes_eq-Decides}
use lib.ListN.{length-map}
use Rattle.mq_blocks.specs.Blocks.{content}
use Rattle.mq_blocks.specs.Descriptor.{AreRising}
use Rattle.mq_blocks.specs.Geometry.{homes_of, meta_of, queues_of, write_limit}
use Rattle.mq_blocks.specs.Journal.{is_among, number_limit}
use Rattle.mq_blocks.specs.Machine.{Map, Writes, after, or_kept, write_of}
use Rattle.mq_blocks.specs.declared.geometry.Geometry.{Geometry}
use Rattle.mq_blocks.proofs.JournalAmong.{among-here}
use Rattle.mq_blocks.proofs.Options.{option-cases}
use Rattle.mq_desk_laws.specs.Rule.{core_of, geometry_of, history, map_now, numbered}
use Rattle.mq_desk_laws.specs.Values.{Values}
use Rattle.mq_kv_buckets.specs.Buckets.{IsFormed, records_of}
use Rattle.mq_kv_buckets.specs.Store.{AreBuckets, key_of, map_after_ops}
use Rattle.mq_kv_buckets.specs.declared.operation.KvOp.{KvOp}
use Rattle.mq_kv_buckets.specs.declared.operation.KvReply.{KvReply}
use Rattle.mq_kv_buckets.proofs.BucketsReading.{length-bucket_bytes}
use Rattle.mq_kv_buckets.proofs.StoreLaws.{bucket-low, groups-run}
use Rattle.mq_kv_entries.specs.Calls.{IsDoneOnMap, IsEntryFor, store_calls}
use Rattle.mq_kv_entries.specs.Entries.{Does, IsAllLogged, Ran, RanUndrawn, map_by, placed_by, reads_by, tx_of, written_by}
use Rattle.mq_kv_entries.specs.Group.{IsPlaced, store_group}
use Rattle.mq_kv_entries.specs.declared.entry.KvEntry.{KvEntry}
use Rattle.mq_kv_entries.specs.declared.executor.KvMade.{KvMade}
use Rattle.mq_kv_entries.specs.Groups.{GroupLooks, IsDone}
use Rattle.mq_kv_entries.proofs.GroupsDone.{differs-looked}
use Rattle.mq_sessions.proofs.Members.{cons-cases, cons-here, cons-there, none-contained}
use Rattle.mq_ledger.specs.History.{change_of, map_after}
use Rattle.mq_ledger.specs.KnownJournal.{KnownJournal, MayDraw, front}
use Rattle.mq_ledger.specs.declared.tx.Tx.{Tx}
use Rattle.mq_pages.specs.declared.page.Write.{Write}
use Rattle.mq_queue_side.specs.Commits.{IsPlanOf, written_in}
use Rattle.mq_queue_side.proofs.CommitsPlans.{planned}
use Rattle.mq_queue_side.proofs.Parts.{direct_blocks, logged_blocks}
use Rattle.mq_revoke.specs.Guard.{IsOfHistory, MeetsRest, placed_of}
use Rattle.mq_revoke.specs.Placed.{Placed}
use Rattle.mq_revoke.specs.Placing.{AreInOrder, IsPlacement}
use Rattle.mq_revoke.specs.declared.placement.Planned.{Planned}
use Rattle.mq_revoke.proofs.Placed.{lists_of, rising-same}
use Rattle.mq_sessions.specs.Calls.{Call}
use Rattle.mq_sessions.specs.Drawn.{Changes, blocks_in, tx_by}
use Rattle.mq_sessions.specs.Executors.{DoneGroupsMay, IsPlannedBy, IsUndrawn, UndrawnGroupsFit}
use Rattle.mq_sessions.specs.Plans.{is_data, planned_by}
use Rattle.mq_sessions.proofs.LawsWritten.{all, only, whole_in}
use Rattle.mq_turns.specs.Meaning.{newest}

-- ---- lists

-- numbers each below all later ones rise
rising-from : {X : Type 0} (n : X → ℕ) (low high : ℕ) (xs : List X) → AllPairs (λ a b. n a < n b) xs → ((x : X) → Contains xs x → (low ≤ n x) × (n x < high)) → AreRising low high (map n xs)
rising-from {X} n low high [] r within = tt
rising-from {X} n low high (x ∷ xs) r within =
    let here = within x (cons-here x xs x refl) in (
      here.0,
      here.1,
      rising-from n (n x + 1) high xs (λ i j d l h. r (suc i) (suc j) d (omega arith) (omega arith)) (λ y c.
          let w = within y (cons-there x xs y c) in
          let up : n x < n y = above y c in
          (omega arith, w.1)),
    )
  where
    above : (y : X) → Contains xs y → n x < n y
    above y (k, l, e) = subst (λ (z : X). n x < n z) e (r 0 (suc k) y (omega arith) (omega arith))

none-among : (xs : List ℕ) → ((x : ℕ) → is_among x xs ≡ true → ⊥) → xs ≡ []
none-among [] none = refl
none-among (x ∷ xs) none = absurd (none x (among-here x xs))

from-map : {A B : Type 0} (f : A → B) (xs : List A) (y : B) → Contains (map f xs) y → (x : A) × Contains xs x × (f x ≡ y)
from-map f [] y c = none-contained y c
from-map f (x ∷ xs) y c = elim (cons-cases (f x) (map f xs) y c) [
  | inl here ↦ (x, cons-here x xs x refl, here)
  | inr there ↦ (let r = from-map f xs y there in (r.0, cons-there x xs r.0 r.1, r.2))
]

pub blocks-planned : (start : Map) (base : ℕ) (txs : List Tx) (ws : List Write) → map (λ (p : Planned). p.block) (map (planned_by start base txs) ws) ≡ blocks_in ws
blocks-planned start base txs [] = refl
blocks-planned start base txs (w ∷ ws) = ap (λ (bs : List ℕ). w.block ∷ bs) (blocks-planned start base txs ws)

-- ---- the buckets that a group writes

formed-length : (bytes : List ℕ) → IsFormed bytes → length bytes ≡ 4096
formed-length bytes formed = ap length formed.is ∙ length-bucket_bytes (records_of bytes) formed.fits

pub some-buckets : (g : Geometry) → 1 ≤ meta_of g
some-buckets g = let low = g.meta_low in omega arith

-- a bucket at which a group looks is one of the metadata region
pub looked-low : (g : Geometry) (ops : List KvOp) (b : ℕ) → GroupLooks (meta_of g) ops b → b < meta_of g
looked-low g ops b looks = subst (λ (n : ℕ). n < meta_of g) looks.2.1 (bucket-low (meta_of g) (key_of looks.0) (some-buckets g))

pub meta-home : (g : Geometry) (b : ℕ) → b < meta_of g → b < homes_of g
meta-home g b low = omega arith

module _ (g : Geometry) (m : Map) (ops : List KvOp) (replies : List KvReply) (ws : List Write) (buckets : AreBuckets (meta_of g) m) (is : IsDone (meta_of g) m ops replies ws) where
  abbrev next : Map
  next = map_after_ops (meta_of g) m ops

  pub written-low : (w : Write) → Contains ws w → w.block < meta_of g
  written-low w c =
      let at = is.writes_are.written w c in
      looked-low g ops w.block (differs-looked (meta_of g) m ops w.block (λ e. at.2 (sym e ∙ at.1)))

  pub writes-rise : AreRising 0 (homes_of g) (blocks_in ws)
  writes-rise = rising-from (λ (w : Write). w.block) 0 (homes_of g) ws is.writes_are.rise (λ w c. (omega arith, meta-home g w.block (written-low w c)))

  pub next-buckets : AreBuckets (meta_of g) next
  next-buckets = (groups-run (meta_of g) m ops (some-buckets g) buckets).0

  written-formed : (w : Write) → Contains ws w → IsFormed w.content
  written-formed w c = subst IsFormed (is.writes_are.written w c).1 (next-buckets w.block (written-low w c))

  pub whole-writes : (w : Write) → Contains ws w → length w.content ≡ 4096
  whole-writes w c = formed-length w.content (written-formed w c)

  -- ---- where a plan puts them

  module _ (start : Map) (base : ℕ) (txs : List Tx) (q front low : ℕ) (plan : Placed) (placed : IsPlacement g q front low (map (planned_by start base txs) ws) plan) where
    abbrev pub ps : List Planned
    ps = map (planned_by start base txs) ws

    not-data : (p : Planned) → Contains ps p → p.is_data ≡ false
    not-data p c =
        let w = from-map (planned_by start base txs) ws p c in
        ap (λ (x : Planned). x.is_data) (sym w.2) ∙ ap is_data (is.writes_are.written w.0 w.1).0

    pub none-direct : plan.direct ≡ []
    none-direct = none-among plan.direct (λ x among. (let f = placed.direct.only x among in true≢false (sym f.3.is_data ∙ not-data f.0 f.1)))

    pub none-revoked : plan.revoked ≡ []
    none-revoked = none-among plan.revoked (λ x among. (let f = placed.revoked.only x among in true≢false (sym f.3.0.is_data ∙ not-data f.0 f.1)))

    blocks : map (λ (p : Planned). p.block) ps ≡ blocks_in ws
    blocks = blocks-planned start base txs ws

    pub in-order : AreInOrder g ps
    in-order = subst (λ (bs : List ℕ). AreRising 0 (homes_of g) bs) (sym blocks) writes-rise

    pub is-plan : IsPlanOf (homes_of g) (blocks_in ws) plan
    is-plan = subst (λ (bs : List ℕ). IsPlanOf (homes_of g) bs plan) blocks (planned g q front low ps plan in-order placed)

    pub all-logged : plan.logged ≡ blocks_in ws
    all-logged = rising-same 0 (homes_of g) plan.logged (blocks_in ws) is-plan.logged is-plan.rising
        (λ x logged. (is-plan.each x).1 (inl logged))
        (λ x written. elim ((is-plan.each x).0 written) [
          | inl logged ↦ logged
          | inr direct ↦ absurd (false≢true (subst (λ (xs : List ℕ). is_among x xs ≡ true) none-direct direct))
        ])

    -- what the transaction writes
    abbrev both : Writes
    both = written_in plan.logged ws ++ written_in plan.direct ws

    unchanged : (b : ℕ) → write_of both b ≡ None → content (m b) ≡ content (next b)
    unchanged b none = elim (cases_Bool (bytes_eq (content (next b)) (content (m b)))) [
      | inl same ↦ sym ((bytes_eq-Decides (content (next b)) (content (m b))).0 same)
      | inr other ↦
          let w = is.writes_are.all b (λ e. false≢true (sym other ∙ (bytes_eq-Decides (content (next b)) (content (m b))).1 e)) in
          let there : write_of both b ≡ Some w.0.content = subst (λ (n : ℕ). write_of both n ≡ Some w.0.content) w.2 (all (homes_of g) ws plan is-plan w.0 w.1) in
          let never : None ≡ Some w.0.content = sym none ∙ there in
          absurd (cc)
    ]

    pub next-is : (b : ℕ) → content (or_kept (write_of both b) (m b)) ≡ content (next b)
    next-is b = elim (option-cases (write_of both b)) [
      | inl none ↦ ap (λ (o : Option (List ℕ)). content (or_kept o (m b))) none ∙ unchanged b none
      | inr some ↦
          let w = only (homes_of g) ws plan is-plan b some.0 some.1 in
          ap (λ (o : Option (List ℕ)). content (or_kept o (m b))) some.1
          ∙ (sym w.3 ∙ (sym (is.writes_are.written w.0 w.1).1 ∙ ap (λ (n : ℕ). content (next n)) w.2))
    ]

-- ---- what an entry says of the group that it was made of

module _ (g : Geometry) (m : Map) (made : KvMade) (c : Call KvOp) (e : KvEntry) (is : IsEntryFor c made.done e) where
  pub of-entry : IsDone (meta_of g) m c.requests made.done.replies.items made.done.writes.items → IsDone (meta_of g) m e.ops e.replies (written_by e)
  of-entry done =
      subst (λ (ops : List KvOp). IsDone (meta_of g) m ops e.replies (written_by e)) (sym is.ops)
      (subst (λ (rs : List KvReply). IsDone (meta_of g) m c.requests rs (written_by e)) (sym is.replies)
      (subst (λ (ws : List Write). IsDone (meta_of g) m c.requests made.done.replies.items ws) (sym is.writes) done))

  pub ran : IsDoneOnMap g m c.requests made → c.session < queues_of g → Ran g m e
  ran on queue = record {
    buckets = on.buckets;
    queue = subst (λ (n : ℕ). n < queues_of g) (sym is.session) queue;
    is = of-entry on.is;
  }

  pub asks : IsDoneOnMap g m c.requests made → c.session < queues_of g → IsUndrawn g made.done.writes.items [] → IsAllLogged e → RanUndrawn g m e
  asks on queue undrawn logged = record {
    ran = ran on queue;
    undrawn = subst (λ (ws : List Write). IsUndrawn g ws []) (sym is.writes) undrawn;
    logged = logged;
  }

-- ---- what it does

module _ (g : Geometry) (m : Map) (e : KvEntry) (ran : Ran g m e) (start : Map) (base : ℕ) (txs : List Tx) (placed : IsPlaced g start base txs e) where
  does-next : (b : ℕ) → content (after m (change_of (tx_of e)) b) ≡ content (map_by g m e b)
  unfolding after
  does-next b = next-is g m e.ops e.replies (written_by e) ran.buckets ran.is start base txs e.session (reads_by e).front (reads_by e).base (placed_by e) placed b

  pub does : Changes (written_by e) [] → Does g m e
  does changes = record {
    ran = ran;
    changes = changes;
    logged = record {
      logged = all-logged g m e.ops e.replies (written_by e) ran.buckets ran.is start base txs e.session (reads_by e).front (reads_by e).base (placed_by e) placed;
      direct = none-direct g m e.ops e.replies (written_by e) ran.buckets ran.is start base txs e.session (reads_by e).front (reads_by e).base (placed_by e) placed;
      revoked = none-revoked g m e.ops e.replies (written_by e) ran.buckets ran.is start base txs e.session (reads_by e).front (reads_by e).base (placed_by e) placed;
    };
    next = does-next;
    buckets = λ b low. subst IsFormed (sym (does-next b)) (next-buckets g m e.ops e.replies (written_by e) ran.buckets ran.is b low);
  }

-- ---- a draw

-- a transaction that is placed by the rule may be drawn
abbrev pub PlansMeetTheGuard : Type 0
PlansMeetTheGuard =
    (k : KnownJournal) (t : Tx) (writes : List Planned) (read_front read_base : ℕ)
    → AreInOrder k.geometry writes
    → length writes ≤ write_limit k.geometry
    → All (IsOfHistory k) writes
    → read_front ≤ front k
    → read_base ≤ k.word
    → IsPlacement k.geometry t.queue read_front read_base writes (placed_of t)
    → MeetsRest k t
    → MayDraw k t

free-is : (o : Option (List ℕ)) → (is_none o ≡ true) ↔ (o ≡ None)
free-is None = ((λ e. refl), λ e. refl)
free-is (Some block) = ((λ e. absurd cc), λ e. absurd cc)

of-history : (k : KnownJournal) (ws : List Write) → All (IsOfHistory k) (map (planned_by k.start k.base k.history) ws)
of-history k [] = All-nil (IsOfHistory k)
of-history k (w ∷ ws) = All-cons (IsOfHistory k) (planned_by k.start k.base k.history w) (map (planned_by k.start k.base k.history) ws) (record { was_free = free-is (map_after k.start k.history w.block); version = refl; last_logged = refl }) (of-history k ws)

-- what a transaction writes goes where the plan says
placed-as : (homes number queue : ℕ) (plan : Placed) (ws : List Write) → IsPlanOf homes (blocks_in ws) plan → placed_of (tx_by number queue plan ws []) ≡ plan
placed-as homes number queue plan ws is =
    ap (λ (xs : List ℕ). lists_of xs (map (λ w. w.0) (written_in plan.direct ws)) plan.revoked) (logged_blocks homes ws plan is)
    ∙ ap (λ (xs : List ℕ). lists_of plan.logged xs plan.revoked) (direct_blocks homes ws plan is)

module _ (law : PlansMeetTheGuard) (k : KnownJournal) (e : KvEntry) (ran : Ran k.geometry (map_after k.start k.history) e) (planned : IsPlannedBy store_group store_calls k e) where
  abbrev gk : Geometry
  gk = k.geometry

  abbrev mk : Map
  mk = map_after k.start k.history

  abbrev us : List Write
  us = written_by e

  abbrev planned-writes : List Planned
  planned-writes = map (planned_by k.start k.base k.history) us

  abbrev drawn : Tx
  drawn = numbered (k.base + length k.history + 1) (tx_of e)

  plan-of : IsPlanOf (homes_of gk) (blocks_in us) (placed_by e)
  plan-of = is-plan gk mk e.ops e.replies us ran.buckets ran.is k.start k.base k.history e.session (reads_by e).front (reads_by e).base (placed_by e) planned.placed

  few : length planned-writes ≤ write_limit gk
  few = subst (λ (n : ℕ). n ≤ write_limit gk) (sym (length-map us (planned_by k.start k.base k.history))) planned.few

  placement : IsPlacement gk e.session (reads_by e).front (reads_by e).base planned-writes (placed_of drawn)
  placement = subst (λ (x : Placed). IsPlacement gk e.session (reads_by e).front (reads_by e).base planned-writes x) (sym (placed-as (homes_of gk) (k.base + length k.history + 1) e.session (placed_by e) us plan-of)) planned.placed

  whole : (w : Write) → Contains us w → length w.content ≡ 4096
  whole = whole-writes gk mk e.ops e.replies us ran.buckets ran.is

  meets : k.base + length k.history + 1 ≤ number_limit → MeetsRest k drawn
  meets limit = record {
    queue = ran.queue;
    number = refl;
    limit = limit;
    whole = All-append (λ (w : ℕ × List ℕ). length w.1 ≡ 4096) (written_in (placed_by e).logged us) (written_in (placed_by e).direct us)
        (whole_in (placed_by e).logged us whole)
        (whole_in (placed_by e).direct us whole);
    freed = tt;
    kept = tt;
    there = λ x freed. absurd (false≢true freed);
  }

  pub may-draw : k.base + length k.history + 1 ≤ number_limit → MayDraw k drawn
  may-draw limit =
      law k drawn planned-writes (reads_by e).front (reads_by e).base
      (in-order gk mk e.ops e.replies us ran.buckets ran.is k.start k.base k.history e.session (reads_by e).front (reads_by e).base (placed_by e) planned.placed)
      few (of-history k us) planned.front_low planned.base_low placement (meets limit)

-- ---- the rule of a desk

module _ {Q R : Type 0} (values : Values Q R KvEntry) where
  history-length : (base : ℕ) (es : List KvEntry) → length (history values store_group base es) ≡ length es
  history-length base [] = refl
  history-length base (e ∷ es) = let rest = history-length base es in omega arith

  pub fits : UndrawnGroupsFit values store_group store_calls
  fits K c made e on is queue undrawn logged = asks (geometry_of values store_group K) (map_now values store_group K) made c e is on queue undrawn logged

  pub may : PlansMeetTheGuard → DoneGroupsMay values store_group store_calls
  may law K c made e on is changes queue limit planned =
      let k = core_of values store_group K in
      let here : Ran k.geometry (map_after k.start k.history) e = ran (geometry_of values store_group K) (map_now values store_group K) made c e is on queue in
      let long : k.base + length k.history + 1 ≡ newest K + 1 = ap (λ (n : ℕ). K.opening.base + n + 1) (history-length K.opening.base K.log) in
      let low : k.base + length k.history + 1 ≤ number_limit = subst (λ (n : ℕ). n ≤ number_limit) (sym long) limit in
      record {
        draw = subst (λ (n : ℕ). MayDraw k (numbered n (tx_of e))) long (may-draw law k e here planned low);
        does = does (geometry_of values store_group K) (map_now values store_group K) e here k.start k.base k.history planned.placed (subst (λ (ws : List Write). Changes ws []) (sym is.writes) changes);
        placed = planned.placed;
      }
