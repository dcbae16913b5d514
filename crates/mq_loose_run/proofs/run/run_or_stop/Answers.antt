use Rattle.std.proofs.Common.{◌≡◌, inr}
use Rattle.std.proofs.lemmas.Result.{IfOk-weaker}
use Rattle.mq_loose_run.specs.Texts.{IsOver}
use Rattle.mq_loose_run.specs.declared.running.Stop.TheVariants as stop
use Rattle.mq_loose_run.proofs.Texts.{all_stopped}
use Rattle.mq_loose_run.proofs.run.run_or_stop.Goals as goal

pub returns-in-Err : goal.returns-in-Err
returns-in-Err c = IfOk-weaker c.unless_off.result (λ _. c.in-Err.stop ≡ stop.Off) (λ _. IsOver c.args.text.now c.args.running.now c.run_lines.new.running)
    (λ x is fuse start run. inr (all_stopped (Unit {0}) fuse start c.args.text.now c.in-Err.stop c.run_lines.new.running is (c.in-Err.ensures fuse start run))) c.unless_off.ensures
