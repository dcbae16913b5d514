use Rattle.std.proofs.Common.{map, refl}
use Rattle.std.specs.String.{string_bytes}
use Rattle.mq_command_io.specs.Ending.{memory_line}
use Rattle.mq_cli.specs.Asked.{asked}
use Rattle.mqfs.specs.Program.{no_command, no_memory, of_command, usage_line}
use Rattle.mqfs.proofs.ProgramEndings.{decided_told, runs_told, unknown_asks}
use Rattle.mqfs.proofs.program.read_and_run.Goals as goal

pub returns-in-Ok-clause-ends : goal.returns-in-Ok-clause-ends
returns-in-Ok-clause-ends g c =
    let ends = c.run.ensures.ends in
    (ends.0, ends.1, of_command (asked c.in-Ok.command) c.in-Ok.ensures.asks ends.2, ends.3)

pub returns-in-Ok-clause-decided : goal.returns-in-Ok-clause-decided
returns-in-Ok-clause-decided g c = λ a status asks decides.
    decided_told (map string_bytes c.args.words.now) (g.F.Files.state c.args.files.now) a (asked c.in-Ok.command) c.run.result c.in-Ok.ensures.asks c.run.ensures.decided asks status decides

pub returns-in-Err-Unknown-clause-ends : goal.returns-in-Err-Unknown-clause-ends
returns-in-Err-Unknown-clause-ends g c =
    let none = unknown_asks c.in-Err-Unknown.field-0 (map string_bytes c.args.words.now) c.in-Err-Unknown.field-0-is c.in-Err-Unknown.ensures.asks in
    (1, usage_line, no_command none refl, c.say.ensures)

pub returns-in-Err-OutOfMemory-clause-ends : goal.returns-in-Err-OutOfMemory-clause-ends
returns-in-Err-OutOfMemory-clause-ends g c = (6, memory_line, no_memory refl, c.say_memory.ensures)

pub returns-in-Ok-clause-runs : goal.returns-in-Ok-clause-runs
returns-in-Ok-clause-runs g c = λ a asks runs.
    runs_told (map string_bytes c.args.words.now) (g.F.Files.state c.args.files.now) a (asked c.in-Ok.command) c.run.result c.in-Ok.ensures.asks c.run.ensures.runs asks runs
