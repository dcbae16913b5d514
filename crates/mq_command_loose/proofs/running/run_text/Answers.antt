use Rattle.std.proofs.Common.{◌∙◌}
use Rattle.mq_command_loose.proofs.Looses.{output_is}
use Rattle.mq_command_loose.proofs.running.run_text.Goals as goal

pub returns : goal.returns
returns c =
    let run = c.in_ok-run.ensures in (
      run.set,
      c.in_ok-run.run'.image,
      run.set_in,
      run.left,
      output_is c.args.cut c.args.text.now run.set c.deref.result.now c.deref-2.result.now c.deref-3.result.now c.in_ok-text.text.items c.in_ok-text.ensures
          (c.deref.ensures.value ∙ run.acknowledged) (c.deref-2.ensures.value ∙ run.set_is) (c.deref-3.ensures.value ∙ run.live),
      c.in_ok-file.ensures,
    )
