use Rattle.std.proofs.Common.{refl}
use Rattle.std.proofs.lemmas.Bool.{eq-eqb}
use Rattle.mq_desk_laws.proofs.Cells.{page_drawn}
use Rattle.mq_desk_laws.proofs.RuleStaying.{good_now, ok_drawn}
use Rattle.mq_desk_laws.proofs.laws.a_draw_keeps_the_rule.Goals as goal

pub returns : goal.returns
returns g c = record {
  ok = λ e K k may. ok_drawn g.J.JournalValues.values g.J.JournalValues.group e K k may;
  side = λ log e. eq-eqb (g.J.JournalValues.group.tx e).queue (g.J.JournalValues.group.tx e).queue refl;
  page = λ b e K c k p. page_drawn g.J.JournalValues.values g.J.JournalValues.group b e K c k p;
  map = λ K k. good_now g.J.JournalValues.values g.J.JournalValues.group K k;
}
