use Rattle.mq_turns.specs.AtDesk.{view, start_of}
use Rattle.mq_journal.proofs.PagesVisits.{if_ok_both, page_kept, version_looked}
use Rattle.mq_journal.proofs.pages.settle_page.Goals as goal

pub returns-clause-page : goal.returns-clause-page
returns-clause-page g c = page_kept g.P.Port.state g.P.Port.faults g.G.Groups.group (start_of c.args.desk.now) c.args.block c.args.cell.now (view c.args.chair.now) (view c.catch_up.new.chair) c.catch_up.ensures.held c.requires.page

pub returns-clause-settled : goal.returns-clause-settled
returns-clause-settled g c = if_ok_both c.catch_up.result (λ n looked done. (version_looked g.P.Port.state g.P.Port.faults g.G.Groups.group (start_of c.args.desk.now) c.args.block c.args.cell.now (view c.args.chair.now) n c.requires.at.1 c.requires.page looked, done)) c.catch_up.ensures.looked c.catch_up.ensures.done
