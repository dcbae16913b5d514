-- A group that is done on the pages in hand may be drawn where it is placed by what is known; or why it is not.
use Rattle.std.proofs.Common.{◌≡◌, ◌≢◌, ℕ, ◌+◌, ◌<◌, ◌≤◌, ◌^◌, true, List, ◌∷◌, ◌++◌, length, map, refl, sym, ap, subst, ◌∙◌, inl, inr, arith}
use Rattle.std.specs.Prelude.{Option, Some, None}
use Rattle.std.specs.List.{Contains}
use Rattle.std.proofs.lemmas.Bool.{eqb-true, false≢true}
use Rattle.mq_blocks.specs.Drive.{PortState}
use Rattle.mq_blocks.specs.Geometry.{area_of, homes_of, queues_of, write_limit}
use Rattle.mq_blocks.specs.Descriptor.{AreRising}
use Rattle.mq_blocks.specs.Machine.{write_of}
use Rattle.mq_blocks.specs.declared.geometry.Geometry.{Geometry}
use Rattle.mq_blocks.proofs.JournalAmong.{among-contains}
use Rattle.mq_blocks.proofs.Options.{option-cases}
use Rattle.mq_journal.specs.Steps.{IsKnownFrom}
use Rattle.mq_desk_laws.specs.Groups.{GroupView}
use Rattle.mq_desk_laws.specs.Rule.{May, core_of, geometry_of, history_of, map_now, numbered, shape_of, start_of, touches}
use Rattle.mq_desk_laws.specs.Values.{Values}
use Rattle.mq_desk_laws.proofs.Meaning.{laws}
use Rattle.mq_desk_laws.proofs.RuleSettled.{front_claimed}
use Rattle.mq_drive.specs.Steps.{PortFault}
use Rattle.mq_drive.specs.declared.port.Port.{Ghosts}
use Rattle.mq_journal.specs.Machine.{journal}
use Rattle.mq_journal.specs.Numbers.{HasPlace, MayCome, Seat, Shared, Start}
use Rattle.mq_journal.specs.Values.{side_values}
use Rattle.mq_journal.proofs.LawsInHand.{held_is_current}
use Rattle.mq_ledger.specs.History.{changes}
use Rattle.mq_ledger.specs.declared.tx.Tx.{Tx}
use Rattle.mq_pages.specs.Held.{Cells, cell_of}
use Rattle.mq_pages.specs.declared.page.PageCell.{PageCell}
use Rattle.mq_pages.specs.declared.page.Write.{Write}
use Rattle.mq_queue_side.specs.Commits.{IsPlanOf, commit_by, commit_of_tx, written_in}
use Rattle.mq_queue_side.specs.Stored.{FitIs, IsBounded, rows_of}
use Rattle.mq_queue_side.specs.declared.answers.Cause.{Cause}
use Rattle.mq_queue_side.specs.declared.answers.Fit.TheVariants.{Area, Yes}
use Rattle.mq_queue_side.specs.declared.root.Root.{Root}
use Rattle.mq_queue_side.specs.declared.side.QueueSide.{QueueSide}
use Rattle.mq_queue_side.proofs.CommitsPlans.{planned}
use Rattle.mq_queue_side.proofs.Parts.{direct_blocks, logged_blocks}
use Rattle.mq_revoke.specs.Guard.{placed_of}
use Rattle.mq_revoke.specs.Placed.{Placed}
use Rattle.mq_revoke.specs.Placing.{AreInOrder, IsPlacement}
use Rattle.mq_revoke.specs.declared.placement.Planned.{Planned}
use Rattle.mq_revoke.proofs.Placed.{lists_of}
use Rattle.mq_turns.specs.Chairs.{giving}
use Rattle.mq_turns.specs.Desk.{Follows, IsTurn, Sees, slot_of}
use Rattle.mq_turns.specs.Lists.{Each, times}
use Rattle.mq_turns.specs.Meaning.{Meaning, newest}
use Rattle.mq_turns.specs.declared.rule.MarkAnswer.TheVariants.{Base, Front}
use Rattle.mq_turns.specs.declared.turn.Turn.{Turn}
use Rattle.mq_turns.specs.declared.turn.Turn.TheVariants.{Page, Root as RootTurn, Side}
use Rattle.mq_turns.proofs.Lists.{each_without}
use Rattle.mq_turns.proofs.DeskSeen.{opening_seen}
use Rattle.mq_sessions.specs.Acts.{IsCaused}
use Rattle.mq_sessions.specs.Attempts.{LacksArea, MeetsRefusal, planned_at}
use Rattle.mq_sessions.specs.Calls.{Call, HasCalled}
use Rattle.mq_sessions.specs.Committing.{HasNoRoom, HasRead, HoldsCommit, IsObstacle, IsPlacedOn, IsPrepared}
use Rattle.mq_sessions.specs.Drawn.{Changes, blocks_in, tx_by}
use Rattle.mq_sessions.specs.Executors.{CallView, DoneGroupsAreOnMaps, DoneGroupsMay, DoneGroupsRise, EntriesTell, IsDoneNow, IsPlannedBy, Tells}
use Rattle.mq_sessions.specs.Leaving.{cells_after}
use Rattle.mq_sessions.specs.Pages.{HoldsPage, HoldsPages, held_pages, page_in}
use Rattle.mq_sessions.specs.Plans.{planned_by, planned_with}
use Rattle.mq_sessions.specs.Preparing.{IsEntryReady}
use Rattle.mq_sessions.specs.declared.committing.Obstacle.{Obstacle}
use Rattle.mq_sessions.specs.declared.committing.Obstacle.TheVariants as obstacle
use Rattle.mq_sessions.specs.declared.committing.Ready.{Ready}
use Rattle.mq_sessions.specs.declared.reads.Reads.{Reads}
use Rattle.mq_sessions.proofs.Attempts.{known-before}
use Rattle.mq_sessions.proofs.CommittingOwn.{drew-above}
use Rattle.mq_sessions.proofs.ExecutorsNow.{done-now}
use Rattle.mq_sessions.proofs.LawsWritten.{only}
use Rattle.mq_sessions.proofs.PagesBeside.{side-apart}
use Rattle.mq_sessions.proofs.PagesHolding.{cells-now, pages-kept-all}
use Rattle.mq_sessions.proofs.PagesLists.{each-cell}
use Rattle.mq_sessions.proofs.PlansTold.{blocks-planned, tells_plans}

-- what a transaction writes goes where the plan says
placed-as : (homes number queue : ℕ) (plan : Placed) (ws : List Write) (frees : List ℕ) → IsPlanOf homes (blocks_in ws) plan → placed_of (tx_by number queue plan ws frees) ≡ plan
placed-as homes number queue plan ws frees is =
    ap (λ (xs : List ℕ). lists_of xs (map (λ w. w.0) (written_in plan.direct ws)) plan.revoked) (logged_blocks homes ws plan is)
    ∙ ap (λ (xs : List ℕ). lists_of plan.logged xs plan.revoked) (direct_blocks homes ws plan is)

-- ---- cells that are known

known-cell : (o : Option PageCell) → page_in o ≢ None → (c : PageCell) × (o ≡ Some c)
known-cell None some = absurd (some refl)
known-cell (Some c) some = (c, refl)

-- the page of each block that the transaction changes is held
changed-known : (homes number queue : ℕ) (plan : Placed) (ws : List Write) (frees : List ℕ) (cells : Cells) (b : ℕ) → IsPlanOf homes (blocks_in ws) plan → ((w : Write) → Contains ws w → held_pages cells w.block ≢ None) → ((x : ℕ) → Contains frees x → held_pages cells x ≢ None) → changes (tx_by number queue plan ws frees) b ≡ true → held_pages cells b ≢ None
changed-known homes number queue plan ws frees cells b is written freed change = elim (option-cases (write_of (written_in plan.logged ws ++ written_in plan.direct ws) b)) [
  | inl none ↦ freed b (among-contains frees b (rw none at change))
  | inr some ↦
      let w = only homes ws plan is b some.0 some.1 in
      subst (λ (x : ℕ). held_pages cells x ≢ None) w.2 (written w.0 w.1)
]

-- what the transaction of an entry makes of cells, by what the entry was made of
pub entry-leaves : {E Req Rep D : Type 0} (group : GroupView E) (calls : CallView E Req Rep D) (number : ℕ) (c : Call Req) (done : D) (plan : Placed) (e : E) (cells : Cells) → Tells group calls c done e → calls.placed e ≡ plan → cells_after (numbered number (group.tx e)) cells ≡ cells_after (tx_by number 0 plan (calls.writes done) (calls.frees done)) cells
entry-leaves group calls number c done plan e cells tells placed =
    ap (λ (t : Tx). cells_after (numbered number t) cells) tells.tx
    ∙ (λ i. cells_after (tx_by number 0 (placed i) (calls.writes done) (calls.frees done)) cells)

-- ---- a group on the pages in hand

module _ {P E Req Rep D : Type 0} {G : Ghosts P} (state : P → PortState) (faults : P → List PortFault) (group : GroupView E) (calls : CallView E Req Rep D) (maps : DoneGroupsAreOnMaps calls group.good) (rises : DoneGroupsRise group calls) where
  abbrev V : Values (QueueSide P E G) (Root P G) E
  V = side_values state faults

  abbrev μ : Meaning PageCell (QueueSide P E G) (Root P G) E
  μ = journal state faults group

  module _ (o : Start P E G) (g : Geometry) (q : ℕ) (cells : Cells) (s : QueueSide P E G) (v : Seat P E G) (requests : List Req) (done : D) where
    -- what the session knows except for its side
    abbrev rest : Seat P E G
    rest = giving (slot_of o (Side q)) v

    module _ (opening : v.opening ≡ Some o) (shape : shape_of V group o ≡ g) (holds : HoldsCommit state faults group o q cells s v) (on : calls.on_cells g q cells requests done) where
      pages-rest : HoldsPages μ o cells rest
      pages-rest = pages-kept-all μ o cells v (slot_of o (Side q)) (side-apart μ o q cells v holds.pages) holds.pages

      seen-rest : (K : Shared P E G) → Sees μ v K → Sees μ rest K
      seen-rest K sees = record {
        opening = sees.opening;
        ok = sees.ok;
        few = sees.few;
        held = each_without _ (slot_of o (Side q)) v.held sees.held;
        seen = sees.seen;
        drew = sees.drew;
        marked = sees.marked;
        reader = sees.reader;
        own = sees.own;
      }

      stands : IsDoneNow V group calls q requests cells rest done
      stands = done-now state faults group g o cells rest opening shape pages-rest calls maps q requests done on (holds.seen.0, seen-rest holds.seen.0 holds.seen.1)

      shape-seen : (K : Shared P E G) → Sees μ rest K → geometry_of V group K ≡ g
      shape-seen K sees = ap (shape_of V group) (opening_seen μ o K rest opening sees) ∙ shape

      -- what the group writes rises
      pub writes-rise : AreRising 0 (homes_of g) (blocks_in (calls.writes done))
      writes-rise =
          let K = holds.seen.0 in
          let sees = seen-rest K holds.seen.1 in
          let rise = rises (geometry_of V group K) q (map_now V group K) requests done (stands.does K sees) in
          subst (λ (x : Geometry). AreRising 0 (homes_of x) (blocks_in (calls.writes done))) (shape-seen K sees) rise

      -- it is done so on the map of what is known
      pub does-now : (K : Shared P E G) → Sees μ v K → calls.on_map g q (map_now V group K) requests done
      does-now K now =
          let sees = seen-rest K now in
          subst (λ (x : Geometry). calls.on_map x q (map_now V group K) requests done) (shape-seen K sees) (stands.does K sees)

      -- a placement of it on these pages is a plan
      pub plan-of : (plan : Placed) (front base : ℕ) → IsPlacement g q front base (map (planned_with cells) (calls.writes done)) plan → IsPlanOf (homes_of g) (blocks_in (calls.writes done)) plan
      plan-of plan front base placement =
          let blocks = blocks-planned cells (calls.writes done) in
          let order : AreInOrder g (map (planned_with cells) (calls.writes done)) = subst (λ (bs : List ℕ). AreRising 0 (homes_of g) bs) (sym blocks) writes-rise in
          subst (λ (bs : List ℕ). IsPlanOf (homes_of g) bs plan) blocks (planned g q front base (map (planned_with cells) (calls.writes done)) plan order placement)

      known : (w : Write) → Contains (calls.writes done) w → (c : PageCell) × (cell_of cells w.block ≡ Some c)
      known w has = known-cell (cell_of cells w.block) (stands.known.written w has)

      -- what the rule of placing asks is what the history says
      told : (K : Shared P E G) → Sees μ rest K → map (planned_with cells) (calls.writes done) ≡ map (planned_by (start_of V group K.opening) K.opening.base (history_of V group K)) (calls.writes done)
      told K sees = tells_plans V group K cells (calls.writes done) (λ b c at. cells-now μ (laws V group) o cells rest K b c opening pages-rest sees at) known

      -- it is placed so by what is known
      pub placed-now : (plan : Placed) (front base : ℕ) (K : Shared P E G) → Sees μ v K → IsPlacement g q front base (map (planned_with cells) (calls.writes done)) plan → IsPlacement g q front base (planned_at state faults group calls K (calls.writes done)) plan
      placed-now plan front base K now placement = subst (λ (ps : List Planned). IsPlacement g q front base ps plan) (told K (seen-rest K now)) placement

      module _ (c : Call Req) (own : c.session ≡ q) (asked : c.requests ≡ requests) (plan : Placed) (e : E) (queue : q < queues_of g) (is : calls.entry_for c done e) (tells : Tells group calls c done e) (placed : calls.placed e ≡ plan) (few : length (calls.writes done) ≤ write_limit g) (front : (calls.reads e).front ≤ v.reading.done) (base : (calls.reads e).base ≤ v.reading.base) (placement : IsPlacement g q (calls.reads e).front (calls.reads e).base (map (planned_with cells) (calls.writes done)) plan) where
        session-is : group.session e ≡ q
        session-is = tells.session ∙ own

        planned-here : (K : Shared P E G) → Sees μ rest K → IsPlannedBy group calls (core_of V group K) e
        planned-here K sees =
            let says = planned_by (start_of V group K.opening) K.opening.base (history_of V group K) in
            let there = subst (λ (ps : List Planned). IsPlacement g q (calls.reads e).front (calls.reads e).base ps plan) (told K sees) placement in
            let mine = subst (λ (ws : List Write). IsPlacement g q (calls.reads e).front (calls.reads e).base (map says ws) plan) (sym tells.written) there in
            let by = subst (λ (p : Placed). IsPlacement g q (calls.reads e).front (calls.reads e).base (map says (calls.written e)) p) (sym placed) mine in
            let of = subst (λ (n : ℕ). IsPlacement g n (calls.reads e).front (calls.reads e).base (map says (calls.written e)) (calls.placed e)) (sym session-is) by in
            record {
              few = subst (λ (x : Geometry). length (calls.written e) ≤ write_limit x) (sym (shape-seen K sees)) (subst (λ (ws : List Write). length ws ≤ write_limit g) (sym tells.written) few);
              front_low = front_claimed V group (calls.reads e).front K sees.ok (let l = sees.reader.last in omega arith) (λ m d at low. sees.reader.done m d at (omega arith));
              base_low = (let l = sees.reader.base in omega arith);
              placed = subst (λ (x : Geometry). IsPlacement x (group.session e) (calls.reads e).front (calls.reads e).base (map says (calls.written e)) (calls.placed e)) (sym (shape-seen K sees)) of;
            }

        may-draw : DoneGroupsMay V group calls → Changes (calls.writes done) (calls.frees done) → (K : Shared P E G) → Sees μ rest K → newest K < 2 ^ 63 → May V group e K
        may-draw law change K sees limit =
            let there = stands.does K sees in
            let at = subst (λ (n : ℕ). calls.on_map (geometry_of V group K) n (map_now V group K) requests done) (sym own) there in
            let asks = subst (λ (rs : List Req). calls.on_map (geometry_of V group K) c.session (map_now V group K) rs done) (sym asked) at in
            let mine : c.session < queues_of (geometry_of V group K) = subst (λ (x : Geometry). c.session < queues_of x) (sym (shape-seen K sees)) (subst (λ (n : ℕ). n < queues_of g) (sym own) queue) in
            law K c done e asks is change mine (omega arith) (planned-here K sees)

        page-held : (b : ℕ) → changes (group.tx e) b ≡ true → 0 < times b v.held
        page-held b change =
            let here = subst (λ (t : Tx). changes t b ≡ true) tells.tx change in
            let plan-is : IsPlanOf (homes_of g) (blocks_in (calls.writes done)) (calls.placed e) = subst (λ (x : Placed). IsPlanOf (homes_of g) (blocks_in (calls.writes done)) x) (sym placed) (plan-of plan (calls.reads e).front (calls.reads e).base placement) in
            let there = changed-known (homes_of g) 0 c.session (calls.placed e) (calls.writes done) (calls.frees done) cells b plan-is (λ w has. stands.known.written w has) (λ x has. stands.known.freed x has) here in
            let cell = known-cell (cell_of cells b) there in
            (each-cell (HoldsPage μ o v) cells b cell.0 holds.pages.each cell.1).holds

        turn-held : (K : Shared P E G) → Sees μ rest K → (t : Turn) → IsTurn K.opening t → touches V group K.log e t ≡ true → 0 < times (slot_of K.opening t) v.held
        turn-held K sees (Page b) mine change = page-held b change
        turn-held K sees (Side r) mine change =
            let at : (group.tx e).queue ≡ r = eqb-true (group.tx e).queue r change in
            let to : (group.tx e).queue ≡ q = ap (λ (t : Tx). t.queue) tells.tx ∙ own in
            let here : 0 < times (slot_of o (Side r)) v.held = subst (λ (n : ℕ). 0 < times (slot_of o (Side n)) v.held) (sym to ∙ at) holds.side.holds in
            subst (λ (x : Start P E G). 0 < times (slot_of x (Side r)) v.held) (sym (opening_seen μ o K rest opening sees)) here
        turn-held K sees RootTurn mine change = absurd (false≢true change)

        pub may-come : DoneGroupsMay V group calls → Changes (calls.writes done) (calls.frees done) → MayCome state faults group o q e v
        may-come law change = record { holds = turn-held; may = may-draw law change }

        tells-plan : placed_of (group.tx e) ≡ plan
        tells-plan =
            ap placed_of tells.tx
            ∙ (ap (λ (p : Placed). placed_of (tx_by 0 c.session p (calls.writes done) (calls.frees done))) placed
            ∙ placed-as (homes_of g) 0 c.session plan (calls.writes done) (calls.frees done) (plan-of plan (calls.reads e).front (calls.reads e).base placement))

        pub has-place : (w : QueueSide P E G) → FitIs (area_of w.pmr.geometry) (calls.reads e).base (rows_of w.stored.items) (state w.pmr.port) plan Yes → IsBounded (rows_of w.stored.items) (state w.pmr.port) plan → HasPlace state faults group w v (placed_of (group.tx e))
        has-place w fits bounds = record {
          base = (calls.reads e).base;
          read = base;
          fits = subst (λ (p : Placed). FitIs (area_of w.pmr.geometry) (calls.reads e).base (rows_of w.stored.items) (state w.pmr.port) p Yes) (sym tells-plan) fits;
          bounds = subst (λ (p : Placed). IsBounded (rows_of w.stored.items) (state w.pmr.port) p) (sym tells-plan) bounds;
        }

-- ---- the next call

module _ {P E : Type 0} {G : Ghosts P} (state : P → PortState) (faults : P → List PortFault) (group : GroupView E) where
  pub follows-call : (calls : ℕ) (e : E) (v : Seat P E G) → group.session e ≡ v.session → group.call e ≡ calls → HasCalled group calls v → Follows (journal state faults group) e v
  follows-call calls e v own count called = record {
    session = own;
    drawn = subst (λ (n : ℕ). Each (λ d. group.call d.1 < n) v.drawn) (sym count) called.drawn;
    read = subst (λ (n : ℕ). Each (λ r. group.call r.0 < n) v.read) (sym count) called.read;
  }

  -- what was called before stays so while words are read
  pub called-on : (calls : ℕ) (old new : Seat P E G) → new.drawn ≡ old.drawn → new.read ≡ old.read → HasCalled group calls old → HasCalled group calls new
  called-on calls old new drawn read called = record {
    drawn = subst (Each (λ d. group.call d.1 < calls)) (sym drawn) called.drawn;
    read = subst (Each (λ r. group.call r.0 < calls)) (sym read) called.read;
    few = (let l = called.few in let e = ap length drawn in omega arith);
  }

  -- what fits a side fits it once a commit is prepared on it
  pub fits-still : (s w : QueueSide P E G) (base : ℕ) (plan : Placed) → w.pmr ≡ s.pmr → w.stored.items ≡ s.stored.items → FitIs (area_of s.pmr.geometry) base (rows_of s.stored.items) (state s.pmr.port) plan Yes → FitIs (area_of w.pmr.geometry) base (rows_of w.stored.items) (state w.pmr.port) plan Yes
  fits-still s w base plan pmr stored fits =
      subst (λ ds. FitIs (area_of w.pmr.geometry) base (rows_of ds) (state w.pmr.port) plan Yes) (sym stored)
      (subst (λ p. FitIs (area_of p.geometry) base (rows_of s.stored.items) (state p.port) plan Yes) (sym pmr) fits)

module _ {P E Req Rep D : Type 0} {G : Ghosts P} (state : P → PortState) (faults : P → List PortFault) (group : GroupView E) (calls : CallView E Req Rep D) (maps : DoneGroupsAreOnMaps calls group.good) (rises : DoneGroupsRise group calls) where
  -- ---- a group that is prepared

  pub is-prepared : (o : Start P E G) (g : Geometry) (c : Call Req) (done : D) (plan : Placed) (reads : Reads) (cells : Cells) (old v : Seat P E G) (s w : QueueSide P E G) (ready : Ready E) → EntriesTell group calls → DoneGroupsMay (side_values {G = G} state faults) group calls → v.opening ≡ Some o → shape_of (side_values state faults) group o ≡ g → HoldsCommit state faults group o c.session cells s v → calls.on_cells g c.session cells c.requests done → c.session < queues_of g → v.session ≡ c.session → HasCalled group c.count v → length (calls.writes done) ≤ write_limit g → Changes (calls.writes done) (calls.frees done) → HasRead reads old v → IsPlacedOn g c.session reads cells (calls.writes done) plan → FitIs (area_of w.pmr.geometry) reads.base (rows_of w.stored.items) (state w.pmr.port) plan Yes → w.kept ≡ None → IsEntryReady state calls c done plan reads w ready → IsPrepared state faults group calls o c done plan old w v ready
  is-prepared o g c done plan reads cells old v s w ready tell law opening shape holds on queue own called few change read placement fits none er =
      let e = ready.entry in
      let tells = tell c done e er.is in
      let front : (calls.reads e).front ≤ v.reading.done = subst (λ (r : Reads). r.front ≤ v.reading.done) (sym er.reads_are) read.front in
      let base : (calls.reads e).base ≤ v.reading.base = subst (λ (r : Reads). r.base ≤ v.reading.base) (sym er.reads_are) read.base in
      let placed : IsPlacement g c.session (calls.reads e).front (calls.reads e).base (map (planned_with cells) (calls.writes done)) plan = subst (λ (r : Reads). IsPlacement g c.session r.front r.base (map (planned_with cells) (calls.writes done)) plan) (sym er.reads_are) placement in
      let fit : FitIs (area_of w.pmr.geometry) (calls.reads e).base (rows_of w.stored.items) (state w.pmr.port) plan Yes = subst (λ (r : Reads). FitIs (area_of w.pmr.geometry) r.base (rows_of w.stored.items) (state w.pmr.port) plan Yes) (sym er.reads_are) fits in
      record {
        is = er.is;
        placed = er.placed;
        answers = read.answers ∙ ap (λ (r : Reads). Base r.base ∷ Front r.front ∷ old.reading.answers) (sym er.reads_are);
        plan_is = (homes_of g, plan-of state faults group calls maps rises o g c.session cells s v c.requests done opening shape holds on plan (calls.reads e).front (calls.reads e).base placed);
        may = may-come state faults group calls maps rises o g c.session cells s v c.requests done opening shape holds on c refl refl plan e queue er.is tells er.placed few front base placed law change;
        follows = follows-call state faults group c.count e v (tells.session ∙ sym own) tells.call called;
        tells =
            er.prepared
            ∙ sym (ap commit_of_tx tells.tx ∙ ap (λ (p : Placed). commit_by p (calls.writes done)) er.placed);
        place = has-place state faults group calls maps rises o g c.session cells s v c.requests done opening shape holds on c refl refl plan e queue er.is tells er.placed few front base placed w fit er.bounds;
        reserved = er.reserved;
        none = none;
      }

  -- ---- a group that is not drawn

  -- what may be known while the session holds the pages was known before it read words
  known-held : (old v : Seat P E G) (K : Shared P E G) → v.opening ≡ old.opening → old.seen ≤ v.seen → v.drawn ≡ old.drawn → Sees (journal state faults group) v K → IsKnownFrom state faults group old K
  known-held old v K opening seen drawn sees =
      known-before state faults group old v K opening seen drawn (record { opening = sees.opening; ok = sees.ok; seen = sees.seen; drew = sees.drew })

  -- a group that is done on the pages in hand, changes something and is not too large meets what the side
  -- refuses
  pub meets-refusal : (o : Start P E G) (g : Geometry) (c : Call Req) (done : D) (cells : Cells) (old v : Seat P E G) (w : QueueSide P E G) (why : Cause) → v.opening ≡ Some o → shape_of (side_values state faults) group o ≡ g → v.opening ≡ old.opening → old.seen ≤ v.seen → v.drawn ≡ old.drawn → HoldsCommit state faults group o c.session cells w v → calls.on_cells g c.session cells c.requests done → length (calls.writes done) ≤ write_limit g → Changes (calls.writes done) (calls.frees done) → ((K : Shared P E G) → Sees (journal state faults group) v K → IsCaused state faults group K c.session why) → (K : Shared P E G) → Sees (journal state faults group) v K → MeetsRefusal state faults group calls g c K old why
  meets-refusal o g c done cells old v w why opening shape same seen drawn holds on few change caused K sees = record {
    from = known-held old v K same seen drawn sees;
    done = done;
    drawable = record {
      does = does-now state faults group calls maps rises o g c.session cells w v c.requests done opening shape holds on K sees;
      changes = change;
      few = few;
    };
    caused = caused K sees;
  }

  lacks-area : ((e : E) → (group.tx e).queue ≡ group.session e) → (o : Start P E G) (g : Geometry) (c : Call Req) (done : D) (plan : Placed) (reads : Reads) (cells : Cells) (old v : Seat P E G) (w : QueueSide P E G) → v.opening ≡ Some o → v.session ≡ c.session → shape_of (side_values state faults) group o ≡ g → w.pmr.geometry ≡ g → length plan.logged + length plan.direct ≤ write_limit g → HoldsCommit state faults group o c.session cells w v → calls.on_cells g c.session cells c.requests done → length (calls.writes done) ≤ write_limit g → Changes (calls.writes done) (calls.frees done) → HasRead reads old v → IsPlacedOn g c.session reads cells (calls.writes done) plan → FitIs (area_of w.pmr.geometry) reads.base (rows_of w.stored.items) (state w.pmr.port) plan Area → (K : Shared P E G) → Sees (journal state faults group) v K → LacksArea state faults group calls g c K old v
  lacks-area queues o g c done plan reads cells old v w opening session shape drive most holds on few change read placement lacks K sees =
      let front_read = read.front in
      let base_read = read.base in
      let fit : FitIs (area_of g) reads.base (rows_of w.stored.items) (state w.pmr.port) plan Area = subst (λ (x : Geometry). FitIs (area_of x) reads.base (rows_of w.stored.items) (state w.pmr.port) plan Area) drive lacks in
      let x = drew-above state faults group queues o g c.session reads.base plan w v K opening session holds.side sees most fit in
      record {
        from = known-held old v K read.words.opening read.words.seen read.words.drawn sees;
        reads = reads;
        answers = read.answers;
        plan = plan;
        placed = record {
          done = done;
          is = record {
            does = does-now state faults group calls maps rises o g c.session cells w v c.requests done opening shape holds on K sees;
            changes = change;
            few = few;
          };
          front_low = front_claimed (side_values state faults) group reads.front K sees.ok (let l = sees.reader.last in omega arith) (λ m d at low. sees.reader.done m d at (omega arith));
          base_low = (let l = sees.reader.base in omega arith);
          placed = placed-now state faults group calls maps rises o g c.session cells w v c.requests done opening shape holds on plan reads.front reads.base K sees placement;
        };
        side = w;
        is = held_is_current state faults group w o c.session v K opening holds.side sees;
        lacks = fit;
        later = read.later;
        number = x.number;
        drew = subst (λ (l : List (ℕ × E)). 0 < times x.number l) read.words.drawn x.drew;
        above = x.above;
      }

  pub lacks-room : ((e : E) → (group.tx e).queue ≡ group.session e) → (o : Start P E G) (g : Geometry) (c : Call Req) (done : D) (plan : Placed) (reads : Reads) (cells : Cells) (old v : Seat P E G) (w : QueueSide P E G) → v.opening ≡ Some o → v.session ≡ c.session → shape_of (side_values state faults) group o ≡ g → w.pmr.geometry ≡ g → length plan.logged + length plan.direct ≤ write_limit g → HoldsCommit state faults group o c.session cells w v → calls.on_cells g c.session cells c.requests done → length (calls.writes done) ≤ write_limit g → Changes (calls.writes done) (calls.frees done) → HasRead reads old v → IsPlacedOn g c.session reads cells (calls.writes done) plan → (l : Obstacle) → HasNoRoom state faults group c.session reads.base plan w v l → IsObstacle state faults group calls g c old w v l
  lacks-room queues o g c done plan reads cells old v w opening session shape drive most holds on few change read placement obstacle.Memory lacks = absurd lacks
  lacks-room queues o g c done plan reads cells old v w opening session shape drive most holds on few change read placement obstacle.Area lacks = lacks-area queues o g c done plan reads cells old v w opening session shape drive most holds on few change read placement lacks
  lacks-room queues o g c done plan reads cells old v w opening session shape drive most holds on few change read placement (obstacle.Drive cause) lacks = (lacks.0, meets-refusal o g c done cells old v w cause opening shape read.words.opening read.words.seen read.words.drawn holds on few change lacks.1)
