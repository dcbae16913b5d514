use Rattle.std.proofs.Common.{◌≡◌, ◌<◌, ◌≤◌, sym, ap, subst, ◌∙◌, arith}
use Rattle.mq_blocks.specs.Geometry.{homes_of}
use Rattle.mq_ledger.specs.History.{last}
use Rattle.mq_ledger.specs.Plain.{plain}
use Rattle.mq_ledger.specs.State.{State, front_of}
use Rattle.mq_core.specs.Events.{MayWriteHome}
use Rattle.mq_core.specs.View.{state_of}
use Rattle.mq_core.proofs.HomesCalls.{is_there}
use Rattle.mq_core.proofs.StateSides.{sides_of}
use Rattle.mq_core.proofs.machine.Core.may_write_home.Goals as goal

pub returns : goal.returns
returns c =
    let s = state_of c.self.inside in
    let x = c.args.block in
    let change : c.change.inside.0 ≡ last s.base s.history x = c.change.view_is ∙ c.last_change.ensures in
    let front : c.front-2.inside.0 ≡ front_of s = c.front-2.view_is ∙ c.front.ensures.is ∙ c.self.invariant.front_is in
    let block : x < homes_of s.geometry = omega (arith, c.block.view_is, c.homes.ensures, ap homes_of c.geometry.ensures, c.if-block-homes.false) in
    let low : s.root.stored_base < last s.base s.history x = omega (arith, change, c.stored_base.ensures, c.if-change-stored_base.false) in
    let high : last s.base s.history x ≤ front_of s = omega (arith, change, front, c.if-change-front.false) in (
      λ k. (let logged = c.is_logged_last.ensures.0 k in subst (λ (t : State). MayWriteHome t x) c.self.view_is (record { block = block; there = is_there s x (sides_of plain s c.self.invariant.facts) low logged; low = low; high = high; logged = logged })),
      λ m. c.is_logged_last.ensures.1 (subst (λ (t : State). MayWriteHome t x) (sym c.self.view_is) m).logged,
    )
