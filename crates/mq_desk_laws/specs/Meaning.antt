-- The rule of a desk over ports, as a desk asks for it.
use Rattle.mq_pages.specs.declared.page.PageCell.{PageCell}
use Rattle.mq_turns.specs.Meaning.{Meaning}
use Rattle.mq_desk_laws.specs.Groups.{GroupView}
use Rattle.mq_desk_laws.specs.Rule
use Rattle.mq_desk_laws.specs.Values.{Values}

module _ {Q R E : Type 0} (values : Values Q R E) (group : GroupView E) where
  abbrev pub meaning : Meaning PageCell Q R E
  meaning = record {
    touches = Rule.touches values group;
    lies = Rule.lies values group;
    queue = λ e. (group.tx e).queue;
    session = group.session;
    group = group.call;
    ok = Rule.IsOk values group;
    page = Rule.IsPage values group;
    side = Rule.IsSide values group;
    root = Rule.IsRoot values group;
    may = Rule.May values group;
    fits = Rule.Fits values group;
  }
