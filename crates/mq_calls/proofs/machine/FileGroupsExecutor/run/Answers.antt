use Rattle.std.proofs.Common.{sym, subst}
use Rattle.mq_exec.specs.Outcomes.{Answers}
use Rattle.mq_exec.specs.declared.outcome.Outcome.TheVariants.{Done, Need}
use Rattle.mq_inodes.specs.Fits.{IsPossible}
use Rattle.mq_inodes.specs.Pages.{held_pages}
use Rattle.mq_inodes.proofs.PagesLifting.{laid-agrees}
use Rattle.mq_pages.specs.Held.{HeldCells}
use Rattle.mq_calls.proofs.machine.FileGroupsExecutor.run.Goals as goal

pub run-requires-clause-possible : goal.run-requires-clause-possible
run-requires-clause-possible c =
    let p = c.requires.possible in
    let possible : IsPossible c.args.geometry (held_pages c.args.held.now.cells) = (p.1.0, laid-agrees c.args.geometry p.0 (held_pages c.args.held.now.cells) p.1.0 p.1.1 p.2) in
    subst (λ (h : HeldCells). IsPossible c.args.geometry (held_pages h.cells)) (sym c.new.ensures) possible

pub returns-in-Done : goal.returns-in-Done
returns-in-Done c =
    let ran : Answers c.args.geometry c.args.queue (held_pages c.new.result.held.now.cells) c.args.requests.now (Done c.in-Done.done) = rw c.in-Done.is at c.in_ok-done.ensures in
    subst (λ (h : HeldCells). Answers c.args.geometry c.args.queue (held_pages h.cells) c.args.requests.now (Done c.in-Done.done)) c.new.ensures ran

pub returns-in-Need : goal.returns-in-Need
returns-in-Need c =
    let ran : Answers c.args.geometry c.args.queue (held_pages c.new.result.held.now.cells) c.args.requests.now (Need c.in-Need.blocks) = rw c.in-Need.is at c.in_ok-done.ensures in
    let here = subst (λ (h : HeldCells). Answers c.args.geometry c.args.queue (held_pages h.cells) c.args.requests.now (Need c.in-Need.blocks)) c.new.ensures ran in
    record { some = here.need.some; absent = here.need.absent; rise = here.rise; homes = here.homes }
