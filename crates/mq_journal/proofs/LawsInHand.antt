-- A side that a session keeps in hand: its drain, and the failure that it keeps.
use Rattle.std.proofs.Common.{◌≡◌, ◌⊎◌, ℕ, ◌-◌, ◌≤◌, ◌^◌, List, length, Some, None, sym, ap, subst, ◌∙◌, inl, inr, arith}
use Rattle.std.specs.Prelude.{Result, Ok}
use Rattle.mq_blocks.specs.Drive.{PortState}
use Rattle.mq_blocks.specs.declared.geometry.Geometry.{Geometry}
use Rattle.mq_drive.specs.Steps.{PortFault}
use Rattle.mq_drive.specs.declared.port.Port.{Ghosts}
use Rattle.mq_ledger.specs.declared.tx.Tx.{Tx}
use Rattle.mq_pages.specs.declared.page.PageCell.{PageCell}
use Rattle.mq_desk_laws.specs.Faults.{IsBacked}
use Rattle.mq_desk_laws.specs.Groups.{GroupView}
use Rattle.mq_desk_laws.specs.Rule
use Rattle.mq_desk_laws.specs.Rule.{IsOk, IsSide}
use Rattle.mq_desk_laws.specs.Values.{Values}
use Rattle.mq_queue_side.specs.Counts.{KeepsCount}
use Rattle.mq_queue_side.specs.Drained.{Drains, IsWhole}
use Rattle.mq_queue_side.specs.Side.{IsKept, IsKeptBy, side_state}
use Rattle.mq_queue_side.specs.Staying.{Stays}
use Rattle.mq_queue_side.specs.Told.{IsTold, KeepsTold}
use Rattle.mq_queue_side.specs.declared.answers.Cause.{Cause}
use Rattle.mq_queue_side.specs.declared.answers.Why.{Why}
use Rattle.mq_queue_side.specs.declared.answers.Why.TheVariants as why
use Rattle.mq_queue_side.specs.declared.root.Root.{Root}
use Rattle.mq_queue_side.specs.declared.side.QueueSide.{QueueSide}
use Rattle.mq_queue_side.proofs.SideSends.{none_kept}
use Rattle.mq_turns.specs.Desk.{Sees, Stay, slot_of, turn_at}
use Rattle.mq_turns.specs.Meaning.{Meaning, charged}
use Rattle.mq_turns.specs.declared.rule.Report.TheVariants as report
use Rattle.mq_turns.specs.declared.turn.Turn.TheVariants.{Side}
use Rattle.mq_turns.proofs.Lists.{each_both}
use Rattle.mq_journal.specs.Draining.{status_of}
use Rattle.mq_journal.specs.Laws.{HeldSidesAreCurrent, KeptFailuresShow}
use Rattle.mq_journal.specs.Numbers
use Rattle.mq_journal.specs.Numbers.{HoldsSide, IsResting, Seat, Shared, Start, reported}
use Rattle.mq_journal.specs.Values.{Shows}
use Rattle.mq_journal.proofs.Drained.{drained_side}
use Rattle.mq_journal.proofs.NumbersMarking.{side_known}
use Rattle.mq_journal.proofs.DrainingRefusing.{some_none, unrung_of}
use Rattle.mq_journal.proofs.NumbersReports.{side_reported}
use Rattle.mq_journal.proofs.ValuesSides.{queue_side}

module _ {P E : Type 0} {G : Ghosts P} (state : P → PortState) (faults : P → List PortFault) (group : GroupView E) where
  abbrev values : Values (QueueSide P E G) (Root P G) E
  values = Numbers.values state faults group

  abbrev μ : Meaning PageCell (QueueSide P E G) (Root P G) E
  μ = Numbers.machine state faults group

  -- ---- a drain

  module _ (s u : QueueSide P E G) (stays : Stays (side_state state faults s) (side_state state faults u)) (counts : KeepsCount (side_state state faults s) (side_state state faults u)) (told : KeepsTold (side_state state faults s) (side_state state faults u)) (stored : u.stored ≡ s.stored) where
    -- the session holds the side as the drain has left it
    pub holds_drained : (r : Result ℕ Cause) → Drains (side_state state faults s) r (side_state state faults u)
        → (o : Start P E G) (q : ℕ) (v : Seat P E G) (K : Shared P E G) → Sees μ v K → HoldsSide state faults group o q s v → HoldsSide state faults group o q u v
    holds_drained r drains o q v K sees h = record {
      turn = h.turn;
      holds = h.holds;
      is = each_both (λ x. μ.ok x.1 × Stay μ (turn_at K.opening x.0) x.1 K) (λ x. x.0 ≡ slot_of o (Side q) → IsSide values group q x.1 s) (λ x. x.0 ≡ slot_of o (Side q) → IsSide values group q x.1 u)
          (λ x known is mine. drained_side state faults group q x.1 s u known.0 (is mine) r drains stays counts told stored) v.held sees.held h.is;
    }

    -- after a whole drain nothing is under way
    pub rests : (q : ℕ) (K : Shared P E G) → IsOk values group K → IsSide values group q K s → (n : ℕ) → Drains (side_state state faults s) (Ok n) (side_state state faults u) → IsWhole (side_state state faults s) (side_state state faults u)
        → IsResting state faults group u × (u.kept ≡ None)
    rests q K ok is n drains whole =
        let k = Rule.core_of values group K in
        let us = Rule.own_of values group q K in
        let qs = queue_side state faults group q K s is in
        let p = state u.pmr.port in
        let none = drains.ends.1 in
        let quiet = none_kept (k.from q) us p.failed p.pending p.doorbell u.kept none (stays q k us ok.log qs).kept in
        let staged : length p.pending ≡ 0 = ap length quiet.1 in
        let head : p.head ≡ p.doorbell = whole q k us ok.log qs in
        (omega arith, none)

  -- ---- a failure that is kept

  module _ (q : ℕ) (K : Shared P E G) (s : QueueSide P E G) (is : IsSide values group q K s) (n : ℕ) where
    abbrev p : PortState
    p = state s.pmr.port

    abbrev from : ℕ
    from = Rule.doorbell_of values group K.opening q

    abbrev us : List Tx
    us = Rule.own_of values group q K

    abbrev first : List PortFault
    first = Rule.faults_of values group K.opening q

    abbrev g : Geometry
    g = Rule.geometry_of values group K

    shows_kept : (w : Why) → s.kept ≡ Some (n, w) → IsKeptBy from us p.failed p.doorbell n w → Shows from us p.doorbell p.failed s.kept (report.Stopped n (status_of w))
    shows_kept why.Off kept by = ((λ none. some_none (sym kept ∙ none)), unrung_of from us p.doorbell n by.1)
    shows_kept (why.Status status) kept by = ((λ none. some_none (sym kept ∙ none)), by.1, by.3)

    -- a fault since the opening names it
    backed_kept : (w : Why) → IsTold first (faults s.pmr.port) (Some (n, w)) → (2 ^ 64 - 1 ≤ length (faults s.pmr.port)) ⊎ IsBacked g (report.Stopped n (status_of w)) first (faults s.pmr.port) (faults s.pmr.port)
    backed_kept w (inl full) = inl full
    backed_kept why.Off (inr t) = inr (record { more = λ f. omega arith; kind = λ f. omega arith; named = t.added })
    backed_kept (why.Status status) (inr t) = inr (record { more = λ f. omega arith; kind = λ f. omega arith; named = t.added })

    kept_shown : (w : Why) → s.kept ≡ Some (n, w) → IsSide values group q (charged (reported q (report.Stopped n (status_of w))) K) s
    kept_shown w kept =
        let by = subst (λ o. IsKept from us p.failed p.pending p.doorbell o) kept is.says.is.kept in
        let named = subst (λ o. IsTold first (faults s.pmr.port) o) kept is.says.is.told in
        side_reported state faults group q K s s (report.Stopped n (status_of w)) is (shows_kept w kept by) is.charged (backed_kept w named)

  pub kept_shows : (s : QueueSide P E G) → KeptFailuresShow state faults group s
  kept_shows s o q tx w v opening h kept K sees = kept_shown q K s (side_known state faults group o q s v opening h K sees) tx w kept

  pub held_is_current : (s : QueueSide P E G) → HeldSidesAreCurrent state faults group s
  held_is_current s o q v K opening h sees = side_known state faults group o q s v opening h K sees
