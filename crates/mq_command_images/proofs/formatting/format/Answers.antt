use Rattle.std.proofs.Common.{refl, ◌∙◌}
use Rattle.mq_command_images.specs.Commands.{wants_memory}
use Rattle.mq_command_io.specs.Ending.{memory_line}
use Rattle.mq_command_images.proofs.CommandsExact.{formatted-where, no-geometry-where}
use Rattle.mq_command_images.proofs.CommandsSaying.{formats, no-numbers}
use Rattle.mq_command_images.proofs.formatting.format.Goals as goal

pub returns-in-Err-clause-ends : goal.returns-in-Err-clause-ends
returns-in-Err-clause-ends g c =
    no-numbers c.args.numbers c.args.name.now (g.F.Files.state c.args.files.now) c.in-Err.refusal (g.K.Sink.state c.args.out.now) (g.K.Sink.state c.say_refused.new.out) c.say_refused.result c.in-Err.ensures.refused c.say_refused.ensures

pub returns-in-Ok-empty_file-clause-ends : goal.returns-in-Ok-empty_file-clause-ends
returns-in-Ok-empty_file-clause-ends g c =
    let made = c.in-Ok-empty_file.ensures in
    formats c.args.numbers c.args.name.now c.deref.result.now c.in-Ok.geometry made.0 (g.F.Files.state c.args.files.now) (g.F.Files.state c.save_and_say.new.files) (g.K.Sink.state c.args.out.now) (g.K.Sink.state c.save_and_say.new.out) c.save_and_say.result
    c.in-Ok.ensures.ok made.1 (c.deref.ensures.value ∙ made.2) c.save_and_say.ensures

pub returns-in-Err-empty_file-clause-ends : goal.returns-in-Err-empty_file-clause-ends
returns-in-Err-empty_file-clause-ends g c = (6, memory_line, wants_memory refl, c.say_memory.ensures)

pub returns-in-Err-clause-done_where : goal.returns-in-Err-clause-done_where
returns-in-Err-clause-done_where g c = λ h are.
    formatted-where c.args.numbers c.args.name.now h (g.F.Files.state c.args.files.now) (g.F.Files.state c.args.files.now) (g.K.Sink.state c.args.out.now) (g.K.Sink.state c.say_refused.new.out) c.say_refused.result (returns-in-Err-clause-ends g c) are

pub returns-in-Err-clause-refused_where : goal.returns-in-Err-clause-refused_where
returns-in-Err-clause-refused_where g c = λ e refuses.
    no-geometry-where c.args.numbers c.args.name.now e (g.F.Files.state c.args.files.now) (g.F.Files.state c.args.files.now) (g.K.Sink.state c.args.out.now) (g.K.Sink.state c.say_refused.new.out) c.say_refused.result (returns-in-Err-clause-ends g c) refuses

pub returns-in-Ok-empty_file-clause-done_where : goal.returns-in-Ok-empty_file-clause-done_where
returns-in-Ok-empty_file-clause-done_where g c = λ h are.
    formatted-where c.args.numbers c.args.name.now h (g.F.Files.state c.args.files.now) (g.F.Files.state c.save_and_say.new.files) (g.K.Sink.state c.args.out.now) (g.K.Sink.state c.save_and_say.new.out) c.save_and_say.result (returns-in-Ok-empty_file-clause-ends g c) are

pub returns-in-Ok-empty_file-clause-refused_where : goal.returns-in-Ok-empty_file-clause-refused_where
returns-in-Ok-empty_file-clause-refused_where g c = λ e refuses.
    no-geometry-where c.args.numbers c.args.name.now e (g.F.Files.state c.args.files.now) (g.F.Files.state c.save_and_say.new.files) (g.K.Sink.state c.args.out.now) (g.K.Sink.state c.save_and_say.new.out) c.save_and_say.result (returns-in-Ok-empty_file-clause-ends g c) refuses

pub returns-in-Err-empty_file-clause-done_where : goal.returns-in-Err-empty_file-clause-done_where
returns-in-Err-empty_file-clause-done_where g c = λ h are.
    formatted-where c.args.numbers c.args.name.now h (g.F.Files.state c.args.files.now) (g.F.Files.state c.args.files.now) (g.K.Sink.state c.args.out.now) (g.K.Sink.state c.say_memory.new.out) c.say_memory.result (returns-in-Err-empty_file-clause-ends g c) are

pub returns-in-Err-empty_file-clause-refused_where : goal.returns-in-Err-empty_file-clause-refused_where
returns-in-Err-empty_file-clause-refused_where g c = λ e refuses.
    no-geometry-where c.args.numbers c.args.name.now e (g.F.Files.state c.args.files.now) (g.F.Files.state c.args.files.now) (g.K.Sink.state c.args.out.now) (g.K.Sink.state c.say_memory.new.out) c.say_memory.result (returns-in-Err-empty_file-clause-ends g c) refuses
