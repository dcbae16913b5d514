use Rattle.std.proofs.Common.{List, ℕ, map, refl, subst, ◌∙◌}
use Rattle.std.specs.String.{string_bytes}
use Rattle.mq_command_io.specs.Ending.{EndsWith, memory_line}
use Rattle.mq_kv_cli.specs.Asked.{asked}
use Rattle.mq_kv_text.specs.Reports.{usage_text}
use Rattle.mq_kv_tool.specs.Program.{no_command, no_memory, of_command}
use Rattle.mq_kv_tool.proofs.ProgramEndings.{decided_told, unknown_asks}
use Rattle.mq_kv_tool.proofs.program.read_and_run.Goals as goal

pub returns-in-Ok-clause-ends : goal.returns-in-Ok-clause-ends
returns-in-Ok-clause-ends g c =
    let ends = c.run.ensures.ends in
    (ends.0, ends.1, of_command (asked c.in-Ok.command) c.in-Ok.ensures.asks ends.2, ends.3)

pub returns-in-Ok-clause-decided : goal.returns-in-Ok-clause-decided
returns-in-Ok-clause-decided g c = λ a status asks decides.
    decided_told (map string_bytes c.args.words.now) (g.F.Files.state c.args.files.now) a (asked c.in-Ok.command) c.run.result c.in-Ok.ensures.asks c.run.ensures.decided asks status decides

pub returns-in-Err-Unknown-clause-ends : goal.returns-in-Err-Unknown-clause-ends
returns-in-Err-Unknown-clause-ends g c =
    let none = unknown_asks c.in-Err-Unknown.field-0 (map string_bytes c.args.words.now) c.in-Err-Unknown.field-0-is c.in-Err-Unknown.ensures.asks in
    let ends = subst (λ (l : List ℕ). EndsWith 1 l c.say.result (g.K.Sink.state c.args.out.now) (g.K.Sink.state c.say.new.out)) (c.as_bytes.ensures.value ∙ c.print_usage.ensures) c.say.ensures in
    (1, usage_text, no_command none refl, ends)

pub returns-in-Err-OutOfMemory-clause-ends : goal.returns-in-Err-OutOfMemory-clause-ends
returns-in-Err-OutOfMemory-clause-ends g c = (6, memory_line, no_memory refl, c.say_memory.ensures)
