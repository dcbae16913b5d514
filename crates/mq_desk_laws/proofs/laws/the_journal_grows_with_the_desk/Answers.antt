use Rattle.std.proofs.Common.{refl}
use Rattle.mq_desk_laws.proofs.RuleStaying.{core_grown}
use Rattle.mq_desk_laws.proofs.RuleTelling.{page_brought, page_numbers, page_waits}
use Rattle.mq_desk_laws.proofs.laws.the_journal_grows_with_the_desk.Goals as goal

pub returns : goal.returns
returns g c = record {
  grows = λ K L grows. core_grown g.J.JournalValues.values g.J.JournalValues.group K L grows;
  told = λ b n K. refl;
  page = λ b K cell p. page_numbers g.J.JournalValues.values g.J.JournalValues.group b K cell p;
  waits = λ b K cell p last waits done. page_waits g.J.JournalValues.values g.J.JournalValues.group b K cell p last waits done;
  noted = λ base b K L cell k grows reached p done home. page_brought g.J.JournalValues.values g.J.JournalValues.group base b K L cell k grows reached p done home;
}
