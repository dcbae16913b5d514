-- The doorbells of a closed desk with one session.
use Rattle.std.proofs.Common.{◌≡◌, ◌∙◌, ℕ, zero, suc, cond, ◌+◌, ◌<◌, ◌≤◌, Bool, true, false, List, [], ◌∷◌, ◌++◌, length, get_or, map, inl, inr, refl, sym, ap, subst, arith}
use Rattle.std.specs.Prelude.{Option, nat_eq}
use Rattle.std.proofs.lemmas.Bool.{cases_Bool, cases_lt, eq-eqb, eqb-true, le-leb, lt-leb}
use Rattle.mq_blocks.specs.Drive.{PortState}
use Rattle.mq_blocks.specs.declared.geometry.Geometry.{Geometry}
use Rattle.mq_core.proofs.HistoryFronts.{done_below}
use Rattle.mq_drive.specs.Steps.{PortFault}
use Rattle.mq_drive.specs.declared.port.Port.{Ghosts}
use Rattle.mq_drive.specs.declared.port.Ports.{Ports}
use Rattle.mq_journal.specs.Numbers.{Seat, Shared, Start}
use Rattle.mq_journal.specs.Values.{side_values}
use Rattle.mq_kv.specs.Opening.{IsOpenedOver}
use Rattle.mq_kv_buckets.specs.declared.operation.KvOp.{KvOp}
use Rattle.mq_kv_entries.specs.Entries.{tx_of}
use Rattle.mq_kv_entries.specs.Group.{store_group}
use Rattle.mq_kv_entries.specs.declared.entry.KvEntry.{KvEntry}
use Rattle.mq_kv_run.specs.Groups.{IsReached, Point, with_cut, without}
use Rattle.mq_kv_run.specs.Trails.{AreOfFirst, IsNewest, IsPointAt}
use Rattle.mq_kv_run.proofs.ImageEnds as at_end
use Rattle.mq_ledger.specs.History.{IsAt, of_queue, writes}
use Rattle.mq_ledger.specs.Items.{below, descriptor_blocks, end_of}
use Rattle.mq_ledger.specs.KnownJournal.{front}
use Rattle.mq_ledger.specs.Sides.{SideOk}
use Rattle.mq_ledger.specs.State.{no_port, port_at}
use Rattle.mq_ledger.specs.declared.tx.Tx.{Tx}
use Rattle.mq_recover.specs.Drives.{drive_of}
use Rattle.mq_recover.specs.declared.standing.Standing.{Standing}
use Rattle.mq_desk_laws.specs.Rule.{core_of, doorbell_of, geometry_of, history, numbered}
use Rattle.mq_desk_laws.specs.Values.{Values}
use Rattle.mq_queue_side.specs.declared.root.Root.{Root}
use Rattle.mq_queue_side.specs.declared.side.QueueSide.{QueueSide}
use Rattle.mq_state_laws.specs.Parts.{known}
use Rattle.mq_tie.specs.Closed.{HasRun}
use Rattle.mq_tie.specs.Runs.{ports_of}
use Rattle.mq_tie.specs.declared.ended.Ended.{Ended}

-- ---- lists

at-map : {A B : Type 0} (f : A → B) (xs : List A) (q : ℕ) (d : A) → get_or (map f xs) q (f d) ≡ f (get_or xs q d)
at-map f [] q d = refl
at-map f (x ∷ xs) zero d = refl
at-map f (x ∷ xs) (suc q) d = at-map f xs q d

map-twice : {A B C : Type 0} (f : A → B) (h : B → C) (xs : List A) → map h (map f xs) ≡ map (λ x. h (f x)) xs
map-twice f h [] = refl
map-twice {A} {B} {C} f h (x ∷ xs) = ap (λ (ys : List C). h (f x) ∷ ys) (map-twice f h xs)

-- transactions all of whose entries stand below the count
below-all : (from bell : ℕ) (ts : List Tx) → end_of from ts ≤ bell → below from bell ts ≡ ts
below-all from bell [] le = refl
below-all from bell (t ∷ ts) le = ap (λ (b : Bool). cond b (t ∷ ts) (below from bell ts)) (le-leb _ _ le)

below-less : (from bell : ℕ) (t : Tx) (ts : List Tx) → bell < end_of from (t ∷ ts) → below from bell (t ∷ ts) ≡ below from bell ts
below-less from bell t ts lt = ap (λ (b : Bool). cond b (t ∷ ts) (below from bell ts)) (lt-leb _ _ lt)

-- ---- a history of the first session

module _ {Q R : Type 0} (values : Values Q R KvEntry) (base : ℕ) where
  abbrev hist : List KvEntry → List Tx
  hist es = history values store_group base es

  abbrev newest-tx : KvEntry → List KvEntry → Tx
  newest-tx e es = numbered (base + length es + 1) (tx_of e)

  pub first-queue : (es : List KvEntry) → AreOfFirst es → of_queue 0 (hist es) ≡ hist es
  first-queue [] own = refl
  first-queue (e ∷ es) own =
      let is : nat_eq e.session 0 ≡ true = eq-eqb e.session 0 own.0 in
      ap (λ (b : Bool). cond b (newest-tx e es ∷ of_queue 0 (hist es)) (of_queue 0 (hist es))) is
      ∙ ap (λ (ts : List Tx). newest-tx e es ∷ ts) (first-queue es own.1)

  other-session : (q : ℕ) (e : KvEntry) → 0 < q → e.session ≡ 0 → nat_eq e.session q ≡ false
  other-session q e some own = elim (cases_Bool (nat_eq e.session q)) [
    | inl same ↦ absurd (let is = eqb-true e.session q same in omega arith)
    | inr other ↦ other
  ]

  pub other-queue : (q : ℕ) (es : List KvEntry) → 0 < q → AreOfFirst es → of_queue q (hist es) ≡ []
  other-queue q [] some own = refl
  other-queue q (e ∷ es) some own =
      ap (λ (b : Bool). cond b (newest-tx e es ∷ of_queue q (hist es)) (of_queue q (hist es))) (other-session q e some own.0)
      ∙ other-queue q es some own.1

  pub at-older : (newer : List KvEntry) (e : KvEntry) (es : List KvEntry) → IsAt (newest-tx e es) (hist es) (hist (newer ++ e ∷ es))
  at-older [] e es = inl (refl, refl)
  at-older (x ∷ xs) e es = inr (at-older xs e es)

  pub own-older : (newer es : List KvEntry) → AreOfFirst (newer ++ es) → AreOfFirst es
  own-older [] es own = own
  own-older (x ∷ xs) es own = own-older xs es own.1

module _ {P : Type 0} (G : Ghosts P) (state : P → PortState) (faults : P → List PortFault) (g : Geometry) (ports : Ports P) (s : Standing) (o : Start P KvEntry G) (views : List (Seat P KvEntry G)) (r : Ended P KvEntry G)
    (opened : IsOpenedOver state faults g ports s o) (run : HasRun state faults store_group o views r) where
  abbrev values : Values (QueueSide P KvEntry G) (Root P G) KvEntry
  values = side_values state faults

  abbrev K : Shared P KvEntry G
  K = run.end.known

  abbrev base : ℕ
  base = K.opening.base

  abbrev from : ℕ → ℕ
  from q = doorbell_of values store_group K.opening q

  abbrev bell : ℕ → ℕ
  bell q = (port_at (map state (ports_of r)) q).doorbell

  abbrev txs : List KvEntry → List Tx
  txs es = history values store_group base es

  -- where the queue began
  pub from-is : (q : ℕ) → from q ≡ (port_at (drive_of state ports).queues q).doorbell
  from-is q =
      let began : map (λ (w : QueueSide P KvEntry G). (state w.pmr.port).doorbell) K.opening.sides ≡ map (λ (p : PortState). p.doorbell) (map state ports.queues.items) =
      ap (λ (x : Start P KvEntry G). map (λ (w : QueueSide P KvEntry G). (state w.pmr.port).doorbell) x.sides) run.end.opening
      ∙ (sym (map-twice (λ (w : QueueSide P KvEntry G). w.pmr.port) (λ (p : P). (state p).doorbell) o.sides)
      ∙ (ap (map (λ (p : P). (state p).doorbell)) opened.queues
      ∙ sym (map-twice state (λ (p : PortState). p.doorbell) ports.queues.items))) in
      ap (λ (ns : List ℕ). get_or ns q 0) began ∙ at-map (λ (p : PortState). p.doorbell) (map state ports.queues.items) q no_port

  own-is : (q : ℕ) → q < g.queues → q < (geometry_of values store_group K).queues
  own-is q lt = let shape = ap (λ (h : Geometry). h.queues) (at_end.shape-is G state faults g ports s o views r opened run) in omega arith

  side : (q : ℕ) → q < g.queues → SideOk (known (at_end.parts G state faults g ports s o views r opened run)) q (of_queue q (txs K.log)) (port_at (map state (ports_of r)) q)
  side q lt = (at_end.ends G state faults g ports s o views r opened run).parts.sides q (own-is q lt)

  -- a queue of which the history has no group is where it was
  pub still : (q : ℕ) → 0 < q → q < g.queues → AreOfFirst K.log → bell q ≡ (port_at (drive_of state ports).queues q).doorbell
  still q some lt own =
      let end : end_of (from q) (below (from q) (bell q) (of_queue q (txs K.log))) ≡ bell q = (side q lt).ends.doorbell in
      let none : end_of (from q) (below (from q) (bell q) (of_queue q (txs K.log))) ≡ end_of (from q) [] =
      ap (λ (ts : List Tx). end_of (from q) (below (from q) (bell q) ts)) (other-queue values base q K.log some own) in
      let began = from-is q in
      omega arith

  -- the entries of groups up to the front are rung
  module _ (one : 0 < g.queues) (own : AreOfFirst K.log) where
    settled-end : (newer es : List KvEntry) → K.log ≡ newer ++ es → base + length es ≤ front (core_of values store_group K) → end_of (from 0) (txs es) ≤ bell 0
    settled-end newer [] whole low =
        let order = (side 0 one).order in
        let head = order.head_low in
        let stored = order.stored in
        let rung = order.rung in
        omega arith
    settled-end newer (e ∷ es) whole low =
        let order = (side 0 one).order in
        let stored = order.stored in
        let rung = order.rung in
        let t : Tx = newest-tx values base e es in
        let at : IsAt t (txs es) (txs K.log) = subst (λ (l : List KvEntry). IsAt t (txs es) (txs l)) (sym whole) (at-older values base newer e es) in
        let own_old = own-older values base newer (e ∷ es) (subst AreOfFirst whole own) in
        let journal = known (at_end.parts G state faults g ports s o views r opened run) in
        let numbers = (at_end.ends G state faults g ports s o views r opened run).parts.log.numbers in
        let done : journal.done t (txs es) ≡ true = done_below base journal.done t (txs es) (txs K.log) numbers at (omega arith) in
        let past : end_of (from 0) (of_queue 0 (txs es)) + (writes t + descriptor_blocks t) ≤ (port_at (map state (ports_of r)) 0).head = (side 0 one).done t (txs es) at own_old.0 done in
        let head : end_of (from 0) (txs es) + (writes t + descriptor_blocks t) ≤ (port_at (map state (ports_of r)) 0).head =
        subst (λ (ts : List Tx). end_of (from 0) ts + (writes t + descriptor_blocks t) ≤ (port_at (map state (ports_of r)) 0).head) (first-queue values base es own_old.1) past in
        omega arith

    end-is : end_of (from 0) (below (from 0) (bell 0) (txs K.log)) ≡ bell 0
    end-is = ap (λ (ts : List Tx). end_of (from 0) (below (from 0) (bell 0) ts)) (sym (first-queue values base K.log own)) ∙ (side 0 one).ends.doorbell

    -- the point up to which the entries are rung
    pub record Rung (last : Point) (off : Option (List KvOp)) : Type 0 where
      pub point : Point
      pub sent : IsReached g last off point
      pub bell_is : bell 0 ≡ (port_at (drive_of state ports).queues 0).doorbell + point.entries

    at-point : (last p : Point) (off : Option (List KvOp)) (es : List KvEntry) → IsPointAt state faults g K es p → IsReached g last off p → below (from 0) (bell 0) (txs K.log) ≡ txs es → Rung last off
    at-point last p off es at reached is =
        let end : end_of (from 0) (txs es) ≡ bell 0 = ap (end_of (from 0)) (sym is) ∙ end-is in
        let began = from-is 0 in
        let many = at.entries in
        record { point = p; sent = reached; bell_is = omega arith }

    pub is-rung : (last newest : Point) (off : Option (List KvOp)) → last.number ≤ front (core_of values store_group K) → IsNewest state faults g K last off newest → Rung last off
    is-rung last newest off low (inl (same, at)) =
        let number = at.number in
        at-point last last off K.log at (without off) (below-all (from 0) (bell 0) (txs K.log) (settled-end [] K.log refl (omega arith)))
    is-rung last newest off low (inr c) =
        let number = c.at.number in
        let old = below-all (from 0) (bell 0) (txs c.before) (settled-end (c.entry ∷ []) c.before c.log (omega arith)) in
        let t : Tx = newest-tx values base c.entry c.before in
        elim (cases_lt (bell 0) (end_of (from 0) (t ∷ txs c.before))) [
          | inl less ↦ at-point last last off c.before c.at (without off)
              (ap (λ (es : List KvEntry). below (from 0) (bell 0) (txs es)) c.log ∙ (below-less (from 0) (bell 0) t (txs c.before) less ∙ old))
          | inr all ↦ at-point last newest off K.log c.behind
              (subst (λ (x : Option (List KvOp)). IsReached g last x newest) (sym c.off_is) (with_cut c.ops newest c.commit))
              (below-all (from 0) (bell 0) (txs K.log) (subst (λ (es : List KvEntry). end_of (from 0) (txs es) ≤ bell 0) (sym c.log) all))
        ]
