use Rattle.std.proofs.Common.{refl, subst}
use Rattle.std.proofs.lemmas.Result.{err_from_is_err_and}
use Rattle.mq_run_laws.specs.Endings.{drive_options, finishes}
use Rattle.mq_run_laws.specs.Refusals.{wanting}
use Rattle.mq_run_laws.specs.Runs.{IsLast}
use Rattle.mq_run_laws.specs.declared.options.Ending.{Ending}
use Rattle.mq_run_laws.proofs.RunsEnded.{checkpoint-powered, clean-last}
use Rattle.mq_run_laws.proofs.RunsStopped.{not-refused, not-stopped}
use Rattle.mq_run_laws.proofs.running.run_countable.Goals as goal

pub last_of-requires-clause-power : goal.last_of-requires-clause-power
last_of-requires-clause-power g c = λ asked.
    not-stopped c.args.image c.args.scripts.now (finishes c.args.options.ending) (drive_options c.args.options) c.in_ok-left.left c.in_ok-left.ensures.ok
    (checkpoint-powered c.args.options.ending asked) c.a_stopped_run_is_backed.ensures

pub returns-in_err-last-clause-refused : goal.returns-in_err-last-clause-refused
returns-in_err-last-clause-refused g c =
    let p = err_from_is_err_and c.from_residual-in_err-last.result c.from_residual-in_err-last.ensures.1 in
    rw (p.1, p.2) wanting

pub returns-clause-ok : goal.returns-clause-ok
returns-clause-ok g c =
    let left = c.in_ok-left.left in
    let on = c.in_ok-left.ensures.ok in
    record {
      short = c.requires.short;
      played = left.played;
      events = left.events;
      on = on;
      entries = refl;
      answers = refl;
      last = c.in_ok-last.ensures;
      ended = λ asked fine.
          clean-last left.events left.played.finished c.in_ok-last.last
          (not-refused c.args.image c.args.scripts.now (finishes c.args.options.ending) (drive_options c.args.options) left on (checkpoint-powered c.args.options.ending asked) c.a_stopped_run_is_backed.ensures fine)
          (subst (λ (e : Ending). IsLast e left.events left.played.finished c.in_ok-last.last) asked c.in_ok-last.ensures);
    }
