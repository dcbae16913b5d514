use Rattle.std.proofs.Common.{◌∷◌, Ok, Err, Result, IsSome, sym, refl, subst, reverse}
use Rattle.std.proofs.lemmas.Result.{err_from_is_err_and}
use Rattle.mq_ledger.specs.Plain.{plain}
use Rattle.mq_ledger.specs.State.{State}
use Rattle.mq_core.specs.Answers.{Answers}
use Rattle.mq_core.specs.Events.{MayWriteHome, begin_home, content_at}
use Rattle.mq_core.specs.Machine.{WriteHome}
use Rattle.mq_core.specs.Parts.{home_begun, under}
use Rattle.mq_core.specs.View.{state_of}
use Rattle.mq_core.specs.declared.event.CoreRefusal.{CoreRefusal}
use Rattle.mq_core.specs.declared.event.CoreRefusal.TheVariants.{OutOfMemory}
use Rattle.mq_core.proofs.HomesCalls.{home_told, is_in}
use Rattle.mq_core.proofs.MachineCore.{core_machine}
use Rattle.mq_core.proofs.MachineLifts.{Told, answer_at}
use Rattle.mq_core.proofs.MachineParts.{lift}
use Rattle.mq_core.proofs.StateSides.{sides_of}
use Rattle.mq_core.proofs.machine.Core.write_home.Goals as goal
use Rattle.mq_core.proofs.machine.Core.write_home.Goals.{Else-not-may_write_home, After-write_home}

may : (c : Else-not-may_write_home) → MayWriteHome (state_of c.self.inside) c.args.block
may c = subst (λ (t : State). MayWriteHome t c.args.block) (sym c.self.view_is) (c.may_write_home.ensures.0 c.if-not-may_write_home.false)

pub write_home-requires-clause-block : goal.write_home-requires-clause-block
write_home-requires-clause-block c = (may (goal.at.write_home-requires-clause-block c).Else-not-may_write_home).block

pub write_home-requires-clause-there : goal.write_home-requires-clause-there
write_home-requires-clause-there c = subst (λ o. IsSome o) (sym (may (goal.at.write_home-requires-clause-there c).Else-not-may_write_home).there.1) refl

pub write_home-requires-clause-port : goal.write_home-requires-clause-port
write_home-requires-clause-port c = is_in (state_of c.self.inside) (sides_of plain (state_of c.self.inside) c.self.invariant.facts) c.args.block (may (goal.at.write_home-requires-clause-port c).Else-not-may_write_home).block

told : (c : After-write_home) (r : Result (Unit {0}) CoreRefusal)
    → Answers (MayWriteHome (state_of c.self.inside) c.args.block) (home_begun c.self.inside.ledger c.self.inside.ports.items c.self.inside.root c.self.inside.writing.items c.args.block) (under c.self.inside.ledger c.self.inside.ports.items c.self.inside.root c.self.inside.writing.items) (under c.self.inside.ledger c.write_home.new.ports.items c.write_home.new.root c.write_home.new.writing.items) r
    → Told core_machine (WriteHome c.args.block) c.self.inside.ledger.front (state_of c.self.inside) (record (state_of c.self.inside) { ports = c.write_home.new.ports.items; root = c.write_home.new.root; writing = reverse c.write_home.new.writing.items }) r
told c r a =
    let i = c.self.inside in
    let s = state_of i in
    let x = c.args.block in
    home_told core_machine (WriteHome x) i.ledger.front s x (begin_home s.geometry x (content_at s x)) (x ∷ s.writing) c.self.invariant (sides_of plain s c.self.invariant.facts) (λ p. refl) refl (record s { ports = c.write_home.new.ports.items; root = c.write_home.new.root; writing = reverse c.write_home.new.writing.items }) (MayWriteHome s x) r
    (lift (MayWriteHome s x) (home_begun i.ledger i.ports.items i.root i.writing.items x) (under i.ledger i.ports.items i.root i.writing.items) (under i.ledger c.write_home.new.ports.items c.write_home.new.root c.write_home.new.writing.items) (λ (t : State). record t { marks = s.marks; acknowledged = s.acknowledged }) r a) (λ m. m) (λ m. m) (λ m. m.block)

pub invariant_of-self : goal.invariant_of-self
invariant_of-self c = (told (goal.at.invariant_of-self c).After-write_home (Err OutOfMemory) c.in_err-write_home.ensures.refused).held

pub returns-in_err-write_home : goal.returns-in_err-write_home
returns-in_err-write_home c =
    let p = err_from_is_err_and c.from_residual.result c.from_residual.ensures.1 in
    rw (p.1, p.2) (answer_at c.self.view_is (told (goal.at.returns-in_err-write_home c).After-write_home (Err OutOfMemory) c.in_err-write_home.ensures.refused))

pub invariant_of-self-2 : goal.invariant_of-self-2
invariant_of-self-2 c = (told (goal.at.invariant_of-self-2 c).After-write_home (Ok tt) (may (goal.at.invariant_of-self-2 c).Else-not-may_write_home, c.in_ok-write_home.ensures.begun)).held

pub returns : goal.returns
returns c = answer_at c.self.view_is (told (goal.at.returns c).After-write_home (Ok tt) (may (goal.at.returns c).Else-not-may_write_home, c.in_ok-write_home.ensures.begun))
