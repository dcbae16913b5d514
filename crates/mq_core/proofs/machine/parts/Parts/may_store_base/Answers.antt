use Rattle.std.proofs.Common.{◌≡◌, true, ◌≤◌, sym, ◌∙◌, arith}
use Rattle.std.proofs.lemmas.Bool.{false≢true}
use Rattle.mq_ledger.specs.State.{front_of}
use Rattle.mq_core.specs.Bases.{post_none}
use Rattle.mq_core.specs.Parts.{whole}
use Rattle.mq_core.proofs.Bases.{tests_allow, allowed_holds, allowed_none}
use Rattle.mq_core.proofs.machine.parts.Parts.may_store_base.Goals as goal
use Rattle.mq_core.proofs.machine.parts.Parts.may_store_base.Goals.{Else-base-front}

reached : (c : Else-base-front) → c.args.base ≤ front_of (whole c.args.self)
reached c = omega (arith, c.requires.front_is, c.front.ensures.is, c.front-2.view_is, c.base.view_is, c.if-base-front.false)

pub returns-then-not-posts_none : goal.returns-then-not-posts_none
returns-then-not-posts_none c =
    let at = (goal.at.returns-then-not-posts_none c).Else-base-front in (
      λ k. absurd (false≢true k),
      λ m. absurd (false≢true (sym c.if-not-posts_none.true ∙ c.posts_none.ensures ∙ allowed_none (whole c.args.self) c.requires.sides c.args.base (reached at) m)),
    )

pub returns : goal.returns
returns c =
    let s = whole c.args.self in
    let at = (goal.at.returns c).Else-base-front in
    let above : s.root.stored_base ≤ c.args.base = omega (arith, c.stored_base.ensures, c.base.view_is, c.if-base-stored_base.false) in
    let none : post_none s c.args.base s.ports ≡ true = sym c.posts_none.ensures ∙ c.if-not-posts_none.false in (
      λ r. tests_allow s c.requires.sides c.args.base (reached at) above none (c.are_home.ensures.0 r),
      λ m. c.are_home.ensures.1 (allowed_holds s c.requires.sides c.args.base (reached at) m),
    )
