-- What was reported of the ports of a desk is backed by their faults once it is closed.
use Rattle.std.proofs.Common.{◌≡◌, ◌<◌, List, [], length, map, refl, sym, ap, subst, ◌∙◌, inl, inr, arith}
use Rattle.std.specs.Prelude.{slice_index_or}
use Rattle.std.specs.List.{Contains}
use Rattle.std.proofs.lemmas.List.{length-map}
use Rattle.mq_blocks.specs.Drive.{PortState}
use Rattle.mq_blocks.specs.declared.geometry.Geometry.{Geometry}
use Rattle.mq_drive.specs.Steps.{PortFault}
use Rattle.mq_drive.specs.declared.port.Port.{Ghosts}
use Rattle.mq_journal.specs.Numbers.{Seat, Shared, Start}
use Rattle.mq_journal.specs.Values.{side_values}
use Rattle.mq_recover.specs.Drives.{DriveFaults, faults_of}
use Rattle.mq_desk_laws.specs.Faults.{AreCharged, WasGained, named_by}
use Rattle.mq_desk_laws.specs.Groups.{GroupView}
use Rattle.mq_desk_laws.specs.Rule.{IsOfPort, IsPortTurn, IsSide, geometry_of, shape_of}
use Rattle.mq_desk_laws.specs.Rule as rule
use Rattle.mq_desk_laws.specs.Values.{Values}
use Rattle.mq_desk_laws.proofs.Opening.{at_map}
use Rattle.mq_queue_side.specs.declared.root.Root.{Root}
use Rattle.mq_queue_side.specs.declared.side.QueueSide.{QueueSide}
use Rattle.mq_tie.specs.Backed.{IsBehind, IsBehindAt, faults_at, opened_faults}
use Rattle.mq_tie.specs.Closed.{HasRun}
use Rattle.mq_tie.specs.Runs.{ports_of}
use Rattle.mq_tie.specs.declared.ended.Ended.{Ended}
use Rattle.mq_tie.proofs.BackedCharges.{holds-of}
use Rattle.mq_tie.proofs.EndedParts.{there as found}
use Rattle.mq_tie.proofs.Runs.{same-ports}
use Rattle.mq_turns.specs.Desk.{charged_of}
use Rattle.mq_turns.specs.Lists.{Each}
use Rattle.mq_turns.specs.declared.rule.Charge.{Charge}
use Rattle.mq_turns.specs.declared.turn.Turn.{Turn}
use Rattle.mq_turns.specs.declared.turn.Turn.TheVariants as turn

module _ {P E : Type 0} {G : Ghosts P} (state : P → PortState) (faults : P → List PortFault) (group : GroupView E) (o : Start P E G) (views : List (Seat P E G)) (r : Ended P E G) (c : Charge)
    (run : HasRun state faults group o views r) (reported : Contains (charged_of views) c) where
  abbrev values : Values (QueueSide P E G) (Root P G) E
  values = side_values state faults

  abbrev K : Shared P E G
  K = run.end.known

  abbrev shape : Geometry
  shape = shape_of values group o

  shape-is : geometry_of values group K ≡ shape
  shape-is = ap (shape_of values group) run.end.opening

  -- what holds of each charge that is known holds of this one
  of-this : (Q : Charge → Type 0) → Each Q K.charges → Q c
  of-this Q each = holds-of (charged_of views) K.charges c run.end.charges reported Q each

  -- the faults of the port under its turn are behind it
  behind : (t : Turn) → c.port ≡ t → (old new : List PortFault) → AreCharged (geometry_of values group K) t K.charges old new → IsBehind shape c.report old new
  behind t is old new (inl many) = inl many
  behind t is old new (inr backed) =
      let named = of-this _ backed.named is in
      inr (subst (λ (g : Geometry). WasGained (named_by g c.report) old new) shape-is named)

  -- the faults of the ports at the opening, and of those that come back
  abbrev first : DriveFaults
  first = opened_faults G state faults group o

  abbrev last : DriveFaults
  last = faults_of faults (ports_of r) r.root.port

  last-are : last.queues ≡ map (λ s. faults s.pmr.port) run.sides
  last-are = ap (map faults) run.ports ∙ sym (same-ports faults run.sides)

  many : length run.sides ≡ length o.sides
  many = run.end.all_sides

  at-turn : (t : Turn) → c.port ≡ t → IsPortTurn (length K.opening.sides) t → IsBehindAt shape t c.report first last
  at-turn (turn.Page b) is of = of
  at-turn (turn.Side q) is of =
      let lt : q < length o.sides = subst (λ (z : Start P E G). q < length z.sides) run.end.opening of in
      let at = found run.sides q (let m = many in omega arith) in
      let side : IsSide values group q K at.0 = run.end.sides_stand q at.0 at.1 in
      let new : faults_at last q ≡ faults at.0.pmr.port = ap (λ fs. slice_index_or fs q []) last-are ∙ (at_map (λ (s : QueueSide P E G). faults s.pmr.port) run.sides q at.0 [] at.1).0 in
      let old : rule.faults_of values group K.opening q ≡ faults_at first q = ap (λ (z : Start P E G). rule.faults_of values group z q) run.end.opening in
      let many_sides : length first.queues ≡ length o.sides = length-map o.sides (λ (s : QueueSide P E G). faults s.pmr.port) in
      (omega arith, subst (λ (z : List PortFault × List PortFault). IsBehind shape c.report z.0 z.1) (λ i. (old i, sym new i)) (behind (turn.Side q) is (rule.faults_of values group K.opening q) (faults at.0.pmr.port) side.charged))
  at-turn turn.Root is of =
      let root = run.end.root_stands in
      subst (λ (z : Start P E G). IsBehind shape c.report (faults z.root.port) (faults r.root.port)) run.end.opening (behind turn.Root is (faults K.opening.root.port) (faults r.root.port) root.charged)

  pub reports-backed : IsBehindAt shape c.port c.report first last
  reports-backed = at-turn c.port refl (of-this (IsOfPort (length K.opening.sides)) run.end.ok.ports).0
