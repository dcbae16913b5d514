use Rattle.std.proofs.Common.{subst}
use Rattle.mq_command_images.specs.Commands.{saved, unsaved}
use Rattle.mq_command_io.specs.Ending.{EndsWith}
use Rattle.mq_outside.specs.Outside.{SinkState}
use Rattle.mq_command_images.proofs.answer.save_and_say.Goals as goal

pub returns-in-Ok : goal.returns-in-Ok
returns-in-Ok g c =
    let sink = g.K.Sink.state in
    (0, c.args.text.now, saved c.in-Ok.ensures.ok, subst (λ (s : SinkState). EndsWith 0 c.args.text.now c.say.result s (sink c.say.new.out)) c.in-Ok.ensures.silent c.say.ensures)

pub returns-in-Err : goal.returns-in-Err
returns-in-Err g c =
    let refused = c.in-Err.ensures.refused in
    (refused.0, refused.1, unsaved refused.2, refused.3)
