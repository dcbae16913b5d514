-- The rule of a desk over ports obeys the laws of a desk, and a desk may be opened with it.
use Rattle.std.proofs.Common.{refl}
use Rattle.std.proofs.lemmas.Bool.{eq-eqb}
use Rattle.mq_pages.specs.declared.page.PageCell.{PageCell}
use Rattle.mq_turns.specs.Chairs.{Starts}
use Rattle.mq_turns.specs.Meaning.{AreLaws}
use Rattle.mq_turns.specs.declared.rule.Opening.{Opening}
use Rattle.mq_desk_laws.specs.Groups.{GroupView}
use Rattle.mq_desk_laws.specs.Meaning.{meaning}
use Rattle.mq_desk_laws.specs.Opening.{IsFresh}
use Rattle.mq_desk_laws.specs.Values.{Values}
use Rattle.mq_desk_laws.proofs.Opening.{opening_ruled}
use Rattle.mq_desk_laws.proofs.RuleStaying.{ok_drawn, page_along, root_along, side_along}

module _ {Q R E : Type 0} (values : Values Q R E) (group : GroupView E) where
  pub laws : AreLaws (meaning values group)
  laws = record {
    own = λ log e. eq-eqb (group.tx e).queue (group.tx e).queue refl;
    ok_drawn = ok_drawn values group;
    page_along = λ b K L x s k l h. page_along values group b K L x s h;
    side_along = λ q K L x s k l h. side_along values group q K L x s k l h;
    root_along = λ K L x s k l h. root_along values group K L x s k l h;
  }

  -- the values that a fresh desk is opened with stand for the start
  pub starts : (o : Opening PageCell Q R) → IsFresh values group o → Starts (meaning values group) o
  starts o fresh = let is = opening_ruled values group o fresh in record { ok = is.ok; pages = is.pages; sides = is.sides; root = is.root }
