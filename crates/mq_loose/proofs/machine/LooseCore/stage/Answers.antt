use Rattle.std.proofs.Common.{◌≡◌, ◌<◌, ◌≤◌, List, Result, Ok, Err, set, refl, sym, ap, subst, ◌∙◌, arith}
use Rattle.std.proofs.lemmas.Result.{err_from_is_err_and}
use Rattle.mq_blocks.specs.Drive.{PortState, staged_end, after_stage}
use Rattle.mq_ledger.specs.Items.{end_of, item_at}
use Rattle.mq_ledger.specs.Plain.{plain}
use Rattle.mq_ledger.specs.State.{State, port_at, from_at}
use Rattle.mq_core.specs.Answers.{Answers}
use Rattle.mq_core.specs.Events.{MayStage, us_of, stage_side, staged_with}
use Rattle.mq_loose.specs.Guards.{entries_in}
use Rattle.mq_loose.specs.Runs.{Stage}
use Rattle.mq_core.specs.Parts.{AreSides}
use Rattle.mq_loose.specs.Staged.{IsStagedIn}
use Rattle.mq_loose.specs.View.{state_of}
use Rattle.mq_core.specs.declared.event.CoreRefusal.{CoreRefusal}
use Rattle.mq_core.specs.declared.event.CoreRefusal.TheVariants.{OutOfMemory}
use Rattle.mq_loose.proofs.Machines.{loose_machine}
use Rattle.mq_core.proofs.MachineLifts.{Told, answer_at}
use Rattle.mq_core.proofs.MachineParts.{allowed_as, held_sides, queue_told}
use Rattle.mq_loose.proofs.Sides.{sides_of}
use Rattle.mq_loose.proofs.machine.LooseCore.stage.Goals as goal
use Rattle.mq_loose.proofs.machine.LooseCore.stage.Goals.{After-deref, In-Some, After-stage, In_err-stage, In_ok-stage}

sides : (c : After-deref) → AreSides c.self.inside.ledger c.self.inside.ports.items
sides c =
    let i = c.self.inside in
    let s = state_of i in
    held_sides i.ledger i.ports.items i.root s.marks s.writing s.acknowledged (sides_of plain s c.self.invariant.held.facts) c.self.invariant.held.front_is

pub next_count-requires : goal.next_count-requires
next_count-requires c = subst (λ ps. AreSides c.self.inside.ledger ps) (sym c.deref.ensures.value) (sides c)

-- the count that is next
next : (c : In-Some) → (let s = state_of c.self.inside in let q = c.args.queue in let n = c.in-Some.count in (q < s.geometry.queues) × (n ≡ staged_end (port_at s.ports q)) × (from_at s.starts q ≤ n) × (n < end_of (from_at s.starts q) (us_of s q)))
next c =
    let s = state_of c.self.inside in
    let q = c.args.queue in
    let n = c.in-Some.count in
    subst (λ (ps : List PortState). (q < s.geometry.queues) × (n ≡ staged_end (port_at ps q)) × (from_at s.starts q ≤ n) × (n < end_of (from_at s.starts q) (us_of s q))) c.deref.ensures.value c.in-Some.ensures.some

pub returns-in_default : goal.returns-in_default
returns-in_default c =
    let i = c.self.inside in
    let q = c.args.queue in (
      refl,
      λ m.
          let a : (q < i.ledger.geometry.queues) × MayStage (from_at i.ledger.starts q) (us_of (state_of i) q) (port_at i.ports.items q) = subst (λ (t : State). (q < t.geometry.queues) × MayStage (from_at t.starts q) (us_of t q) (port_at t.ports q)) (sym c.self.view_is) m in
          c.in_default.ensures.none (subst (λ (ps : List PortState). (q < i.ledger.geometry.queues) × MayStage (from_at i.ledger.starts q) (us_of (state_of i) q) (port_at ps q)) (sym c.deref.ensures.value) a),
      refl,
    )

pub entry-requires-clause-queue : goal.entry-requires-clause-queue
entry-requires-clause-queue c = subst (λ (t : State). c.args.queue < t.geometry.queues) c.self.view_is (next (goal.at.entry-requires-clause-queue c).In-Some).0

pub entry-requires-clause-low : goal.entry-requires-clause-low
entry-requires-clause-low c = subst (λ (t : State). from_at t.starts c.args.queue ≤ c.in-Some.count) c.self.view_is (next (goal.at.entry-requires-clause-low c).In-Some).2

pub entry-requires-clause-high : goal.entry-requires-clause-high
entry-requires-clause-high c = subst (λ (t : State). c.in-Some.count < end_of (from_at t.starts c.args.queue) (us_of t c.args.queue)) c.self.view_is (next (goal.at.entry-requires-clause-high c).In-Some).3

pub stage-requires-clause-queue : goal.stage-requires-clause-queue
stage-requires-clause-queue c = (next (goal.at.stage-requires-clause-queue c).In-Some).0

pub stage-requires-clause-sides : goal.stage-requires-clause-sides
stage-requires-clause-sides c = sides (goal.at.stage-requires-clause-sides c).After-deref

told : (c : After-stage) (r : Result (Unit {0}) CoreRefusal) → Answers (Unit {0}) (set c.self.inside.ports.items c.args.queue (after_stage (port_at c.self.inside.ports.items c.args.queue) c.in_ok-staged.staged.entry c.in_ok-staged.staged.tx c.in_ok-staged.staged.lba c.in_ok-staged.staged.block)) c.self.inside.ports.items c.stage.new.ports.items r
    → Told loose_machine (Stage c.args.queue) c.self.inside.ledger.front (state_of c.self.inside) (record (state_of c.self.inside) { ports = c.stage.new.ports.items }) r
told c r a =
    let s = state_of c.self.inside in
    let q = c.args.queue in
    let from = from_at s.starts q in
    let n = next (goal.at.After-stage c).In-Some in
    let port = port_at s.ports q in
    let e = entries_in plain s in
    let w : IsStagedIn e.form s.geometry q (item_at from (us_of s q) c.in-Some.count) c.in_ok-staged.staged = subst (λ (t : State). IsStagedIn (entries_in plain t).form t.geometry q (item_at (from_at t.starts q) (us_of t q) c.in-Some.count) c.in_ok-staged.staged) (sym c.self.view_is) c.in_ok-staged.ensures in
    let is : after_stage port c.in_ok-staged.staged.entry c.in_ok-staged.staged.tx c.in_ok-staged.staged.lba c.in_ok-staged.staged.block ≡ stage_side e s.geometry q from (us_of s q) port =
    (λ i. after_stage port (w.entry i) (w.tx i) (w.lba i) (w.block i)) ∙ ap (λ m. staged_with e s.geometry q (item_at from (us_of s q) m) port) n.1 in
    let may : MayStage from (us_of s q) port = omega (arith, n.1, n.3) in
    let both : (q < s.geometry.queues) × MayStage from (us_of s q) port = (n.0, may) in
    queue_told loose_machine (Stage q) c.self.inside.ledger.front s q (λ p. MayStage from (us_of s q) p) (stage_side e s.geometry q from (us_of s q)) c.stage.new.ports.items r c.self.invariant.held c.self.invariant.held.facts.ports
    (allowed_as ((q < s.geometry.queues) × MayStage from (us_of s q) port) (set s.ports q (stage_side e s.geometry q from (us_of s q) port)) s.ports c.stage.new.ports.items both r (subst (λ (p : PortState). Answers (Unit {0}) (set s.ports q p) s.ports c.stage.new.ports.items r) is a)) (λ m. m) (λ m. m) refl refl

pub invariant_of-self : goal.invariant_of-self
invariant_of-self c = record { held = (told (goal.at.invariant_of-self c).After-stage (Err OutOfMemory) c.in_err-stage.ensures.refused).held; rows = c.self.invariant.rows }

pub returns-in_err-stage : goal.returns-in_err-stage
returns-in_err-stage c =
    let p = err_from_is_err_and c.from_residual-in_err-stage.result c.from_residual-in_err-stage.ensures.1 in
    rw (p.1, p.2) (answer_at c.self.view_is (told (goal.at.returns-in_err-stage c).After-stage (Err OutOfMemory) c.in_err-stage.ensures.refused))

pub invariant_of-self-2 : goal.invariant_of-self-2
invariant_of-self-2 c = record { held = (told (goal.at.invariant_of-self-2 c).After-stage (Ok tt) (tt, c.in_ok-stage.ensures.ok)).held; rows = c.self.invariant.rows }

pub returns : goal.returns
returns c = answer_at c.self.view_is (told (goal.at.returns c).After-stage (Ok tt) (tt, c.in_ok-stage.ensures.ok))
