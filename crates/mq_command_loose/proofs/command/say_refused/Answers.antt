use Rattle.std.proofs.Common.{ℕ, List, ◌∙◌, inl, inr, subst}
use Rattle.mq_command_io.specs.Ending.{EndsWith}
use Rattle.mq_command_loose.proofs.command.say_refused.Goals as goal

pub returns-in-Ok : goal.returns-in-Ok
returns-in-Ok g c =
    inl (subst (λ (t : List ℕ). EndsWith 2 t c.say.result (g.K.Sink.state c.args.out.now) (g.K.Sink.state c.say.new.out)) (c.as_bytes.ensures.value ∙ c.in-Ok.ensures) c.say.ensures)

pub returns-in-Err : goal.returns-in-Err
returns-in-Err g c = inr c.say_memory.ensures
