use Rattle.std.proofs.Common.{◌≡◌, Some, sym, refl, ap, subst, ◌∙◌, inl, inr, arith}
use Rattle.std.proofs.lemmas.Bool.{cases_lt, false≢true}
use Rattle.mq_blocks.specs.Geometry.{homes_of, zone_of, home_lba}
use Rattle.mq_ledger.specs.State.{port_of}
use Rattle.mq_core.specs.Bases.{due_at, Holds}
use Rattle.mq_core.specs.Parts.{whole}
use Rattle.mq_core.proofs.machine.parts.Parts.are_home.Goals as goal
use Rattle.mq_core.proofs.machine.parts.Parts.are_home.Goals.{After-homes-block-end}

homes_are : (c : After-homes-block-end) → c.homes-block-end.result ≡ homes_of (whole c.args.self).geometry
homes_are c = c.homes-block-end.ensures ∙ ap homes_of c.geometry.ensures

pub loop-block-init : goal.loop-block-init
loop-block-init c = λ x content below. absurd (omega arith)

pub is_home-requires-clause-block : goal.is_home-requires-clause-block
is_home-requires-clause-block c = omega (arith, homes_are (goal.at.is_home-requires-clause-block c).After-homes-block-end, c.loop-block-test.true)

pub returns-then-not-is_home : goal.returns-then-not-is_home
returns-then-not-is_home c = (
  λ k. absurd (false≢true k),
  λ all. absurd (false≢true (sym c.if-not-is_home.true ∙ c.is_home.ensures.1 (λ content due. all c.loop-block.block content (omega (arith, homes_are (goal.at.returns-then-not-is_home c).After-homes-block-end, c.loop-block-test.true)) due))),
)

pub loop-block-preserved : goal.loop-block-preserved
loop-block-preserved c = λ x content below due. elim (cases_lt x c.loop-block.block) [
  | inl less ↦ c.loop-block.invariant x content less due
  | inr past ↦
      let s = whole c.args.self in
      let is : c.loop-block.block ≡ x = omega arith in
      let due' : due_at s c.args.base c.loop-block.block ≡ Some content = ap (due_at s c.args.base) is ∙ due in
      subst (λ n. Holds (port_of s (zone_of s.geometry n)) (home_lba s.geometry n) content) is (c.is_home.ensures.0 c.if-not-is_home.false content due')
]

pub returns : goal.returns
returns c = (λ k x content inside due. c.loop-block.invariant x content (omega (arith, homes_are (goal.at.returns c).After-homes-block-end, c.loop-block-test.false)) due, λ all. refl)
