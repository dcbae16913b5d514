use Rattle.std.proofs.Common.{List, ℕ, refl, ◌∙◌, subst}
use Rattle.mq_command_io.specs.Ending.{EndsWith, IsSaved, memory_line}
use Rattle.mq_kv_text.specs.Reports.{new_text}
use Rattle.mq_kv_tool.specs.Makes.{made, not_made, wanting}
use Rattle.mq_outside.specs.Outside.{SinkState}
use Rattle.mq_kv_tool.proofs.making.make.Goals as goal

pub returns-in_default : goal.returns-in_default
returns-in_default g c = record { ends = (6, memory_line, wanting refl, c.say_memory.ensures) }

pub returns-in-Ok-save_or_say : goal.returns-in-Ok-save_or_say
returns-in-Ok-save_or_say g c =
    let files = g.F.Files.state in
    let sink = g.K.Sink.state in
    let saved = subst (λ (l : List ℕ). IsSaved c.args.name.now l (files c.args.files.now) (files c.save_or_say.new.files)) c.deref.ensures.value c.in-Ok-save_or_say.ensures.ok in
    let ends = subst (λ (l : List ℕ). EndsWith 0 l c.say.result (sink c.save_or_say.new.out) (sink c.say.new.out)) (c.as_bytes.ensures.value ∙ c.print_new.ensures) c.say.ensures in
    record { ends = (0, new_text, made c.in-Ok.file.items c.in-Ok.ensures saved, subst (λ (s : SinkState). EndsWith 0 new_text c.say.result s (sink c.say.new.out)) c.in-Ok-save_or_say.ensures.silent ends) }

pub returns : goal.returns
returns g c =
    let refused = c.in-Err.ensures.refused in
    record { ends = (refused.0, refused.1, not_made refused.2, refused.3) }
