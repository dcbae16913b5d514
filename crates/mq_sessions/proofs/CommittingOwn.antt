-- Where a plan does not fit the journal area, the session has drawn a number above the base.
use Rattle.std.proofs.Common.{◌≡◌, ℕ, ◌+◌, ◌<◌, ◌≤◌, List, [], ◌∷◌, length, leb, inl, inr, refl, sym, subst, ◌∙◌, arith, Some}
use Rattle.std.proofs.lemmas.Bool.{cases_Bool, leb-false}
use Rattle.mq_blocks.specs.Drive.{PortState}
use Rattle.mq_blocks.specs.Geometry.{area_of, write_limit}
use Rattle.mq_blocks.specs.declared.geometry.Geometry.{Geometry}
use Rattle.mq_blocks.proofs.DescriptorLimits.{further-most, limit-fits}
use Rattle.mq_drive.specs.Steps.{PortFault}
use Rattle.mq_drive.specs.declared.port.Port.{Ghosts}
use Rattle.mq_desk_laws.specs.Groups.{GroupView}
use Rattle.mq_journal.specs.Numbers.{HoldsSide, Seat, Shared, Start}
use Rattle.mq_journal.proofs.LawsInHand.{held_is_current}
use Rattle.mq_ledger.specs.History.{IsAt, of_queue}
use Rattle.mq_ledger.specs.declared.tx.Tx.{Tx}
use Rattle.mq_ledger.proofs.HistoryQueues.{FromQueue-of}
use Rattle.mq_revoke.specs.Placed.{Placed}
use Rattle.mq_desk_laws.specs.Rule.{IsSide, history_of}
use Rattle.mq_desk_laws.proofs.RuleSettled.{entry_at}
use Rattle.mq_queue_side.specs.Stored.{FitIs, FitsArea, Row, places_in, rows_for, rows_of}
use Rattle.mq_queue_side.specs.declared.answers.Fit.TheVariants.{Area}
use Rattle.mq_queue_side.specs.declared.side.QueueSide.{QueueSide}
use Rattle.mq_turns.specs.Desk.{Sees}
use Rattle.mq_turns.specs.Lists.{times}
use Rattle.mq_turns.specs.Meaning.{HasNumberAt}
use Rattle.mq_journal.specs.Machine.{journal}
use Rattle.mq_journal.specs.Values.{side_values}

-- the first of the rows is above the base
pub record IsAbove (base : ℕ) (rows : List Row) : Type 0 where
  pub row : Row
  pub rest : List Row
  pub is : rows ≡ row ∷ rest
  pub above : base < row.number

-- beside what the base covers there is room for a plan that fits an empty area
newest-above : (area base : ℕ) (rows : List Row) (plan : Placed) → places_in plan ≤ area → (FitsArea area base rows plan → ⊥) → IsAbove base rows
newest-above area base [] plan room lacks = absurd (lacks (omega arith))
newest-above area base (r ∷ rs) plan room lacks = elim (cases_Bool (leb r.number base)) [
  | inl low ↦ absurd (lacks (rw low (omega arith)))
  | inr high ↦ record { row = r; rest = rs; is = refl; above = leb-false r.number base high }
]

-- a plan of as many writes as a transaction may have fits an empty area
fits-empty : (g : Geometry) (plan : Placed) → length plan.logged + length plan.direct ≤ write_limit g → places_in plan ≤ area_of g
fits-empty g plan few = let a = limit-fits g in let b = further-most (length plan.logged + length plan.revoked) in omega arith

-- the first row is the newest transaction's
newest-of : (r : Row) (rest : List Row) (us : List Tx) → r ∷ rest ≡ rows_for us → (t : Tx) × (ts : List Tx) × (us ≡ t ∷ ts) × (r.number ≡ t.number)
newest-of r rest [] e = absurd cc
newest-of r rest (t ∷ ts) e = (t, ts, refl, cc)

module _ {P E : Type 0} {G : Ghosts P} (state : P → PortState) (faults : P → List PortFault) (group : GroupView E) where
  -- an entry of the queue that is above the base
  record IsOwnAbove (q base : ℕ) (K : Shared P E G) : Type 0 where
    pub number : ℕ
    pub entry : E
    pub at : HasNumberAt K.opening.base K.log number entry
    pub own : (group.tx entry).queue ≡ q
    pub above : base < number

  side-above : (q base : ℕ) (K : Shared P E G) (s : QueueSide P E G) → IsSide (side_values state faults) group q K s → IsAbove base (rows_of s.stored.items) → IsOwnAbove q base K
  side-above q base K s side a =
      let h : List Tx = history_of (side_values {G = G} state faults) group K in
      let newest = newest-of a.row a.rest (of_queue q h) (sym a.is ∙ side.says.stored) in
      let here : IsAt newest.0 newest.1 (of_queue q h) = subst (λ (us : List Tx). IsAt newest.0 newest.1 us) (sym newest.2) (inl (refl, refl)) in
      let f = FromQueue-of q newest.0 newest.1 h here in
      let found = entry_at (side_values {G = G} state faults) group K.opening.base K.log newest.0 f.ts f.at in
      record {
        number = newest.0.number;
        entry = found.0;
        at = found.1;
        own = found.2 ∙ f.own;
        above = (let n = newest.3 in let b = a.above in omega arith);
      }

  -- a number that the session of the queue drew is above the base
  pub record DrewAbove (base : ℕ) (v : Seat P E G) : Type 0 where
    pub number : ℕ
    pub drew : 0 < times number v.drawn
    pub above : base < number

  -- as it must be where the side in hand has no room for a plan
  pub drew-above : ((e : E) → (group.tx e).queue ≡ group.session e) → (o : Start P E G) (g : Geometry) (q base : ℕ) (plan : Placed) (s : QueueSide P E G) (v : Seat P E G) (K : Shared P E G) → v.opening ≡ Some o → v.session ≡ q → HoldsSide state faults group o q s v → Sees (journal state faults group) v K → length plan.logged + length plan.direct ≤ write_limit g → FitIs (area_of g) base (rows_of s.stored.items) (state s.pmr.port) plan Area → DrewAbove base v
  drew-above queues o g q base plan s v K opening session holds sees few fit =
      let side = held_is_current state faults group s o q v K opening holds sees in
      let a = newest-above (area_of g) base (rows_of s.stored.items) plan (fits-empty g plan few) (fit.area_lacks.0 refl) in
      let x = side-above q base K s side a in
      record { number = x.number; drew = sees.own x.number x.entry x.at (sym (queues x.entry) ∙ x.own ∙ sym session); above = x.above }
