use Rattle.std.proofs.Common.{◌≡◌, ◌<◌, Bool, true, Result, Ok, Err, sym, ap, subst, ◌∙◌, arith}
use Rattle.std.specs.Prelude.{◌↔◌, IfOk, IsTrue}
use Rattle.std.proofs.lemmas.Bool.{false≢true}
use Rattle.mq_blocks.specs.Geometry.{homes_of}
use Rattle.mq_ledger.specs.History.{last}
use Rattle.mq_ledger.specs.Plain.{plain}
use Rattle.mq_ledger.specs.State.{State}
use Rattle.mq_loose.specs.Guards.{settled, MayWriteHome}
use Rattle.mq_loose.specs.View.{state_of}
use Rattle.mq_core.proofs.HomesCalls.{is_there}
use Rattle.mq_loose.proofs.Sides.{sides_of}
use Rattle.mq_loose.proofs.machine.LooseCore.may_write_home.Goals as goal

-- the answer is that of a test
answer : {E : Type 0} (A : Type 0) (r : Result Bool E) (b : Bool) → IfOk r (λ is. is ≡ b) → (b ≡ true → A) → (A → b ≡ true) → IfOk r (λ may. IsTrue may ↔ A)
answer A (Ok v) b is to from = (λ t. to (sym is ∙ t), λ a. is ∙ from a)
answer A (Err x) b is to from = tt

pub returns-then-not-is_logged_last : goal.returns-then-not-is_logged_last
returns-then-not-is_logged_last c = (
  λ k. absurd (false≢true k),
  λ m. absurd (false≢true (sym c.if-not-is_logged_last.true ∙ c.is_logged_last.ensures.1 (subst (λ (t : State). MayWriteHome t c.args.block) (sym c.self.view_is) m).logged)),
)

pub returns : goal.returns
returns c =
    let s = state_of c.self.inside in
    let x = c.args.block in
    let change : c.change.inside.0 ≡ last s.base s.history x = c.change.view_is ∙ c.last_change-change.ensures in
    let block : x < homes_of s.geometry = omega (arith, c.block.view_is, c.homes.ensures, ap homes_of c.geometry.ensures, c.if-block-homes.false) in
    let low : s.root.stored_base < last s.base s.history x = omega (arith, change, c.stored_base.ensures, c.if-change-stored_base.false) in
    let logged = c.is_logged_last.ensures.0 c.if-not-is_logged_last.false in
    let same : settled s (last s.base s.history x) ≡ settled c.args.self.now c.last_change-change.result = ap (λ (t : State). settled t (last s.base s.history x)) c.self.view_is ∙ ap (settled c.args.self.now) (sym c.last_change-change.ensures) in
    answer (MayWriteHome c.args.self.now x) c.is_settled.result (settled c.args.self.now c.last_change-change.result) c.is_settled.ensures
    (λ t. subst (λ (v : State). MayWriteHome v x) c.self.view_is (record { block = block; there = is_there s x (sides_of plain s c.self.invariant.held.facts) low logged; low = low; settled_is = same ∙ t; logged = logged }))
    (λ m. sym same ∙ (subst (λ (v : State). MayWriteHome v x) (sym c.self.view_is) m).settled_is)
