use Rattle.std.proofs.Common.{ℕ, List, subst}
use Rattle.std.specs.Prelude.{codes}
use Rattle.mq_command_io.specs.Ending.{EndsWith, save_line, memory_line, named_line, save_failed, save_memory}
use Rattle.mq_command_io.proofs.files.save_or_say.Goals as goal

pub returns-in-Err-Failed-clause-refused : goal.returns-in-Err-Failed-clause-refused
returns-in-Err-Failed-clause-refused g c =
    let sink = g.K.Sink.state in
    let names = rw c.in-Err-Failed.field-0-is at c.in-Err-Failed.ensures.names in
    let rose = rw c.in-Err-Failed.field-0-is at c.in-Err-Failed.ensures.cause in (
      4,
      save_line c.args.name.now,
      save_failed names rose c.save.ensures.takes c.save.ensures.tries,
      subst (λ (n : List ℕ). EndsWith 4 (named_line (codes "fault save ") n) c.say_named.result (sink c.args.out.now) (sink c.say_named.new.out)) c.as_bytes.ensures.value c.say_named.ensures,
    )

pub returns-in-Err-OutOfMemory-clause-refused : goal.returns-in-Err-OutOfMemory-clause-refused
returns-in-Err-OutOfMemory-clause-refused g c =
    let names = rw c.in-Err-OutOfMemory.field-0-is at c.in-Err-OutOfMemory.ensures.names in
    let same = rw c.in-Err-OutOfMemory.field-0-is at c.in-Err-OutOfMemory.ensures.cause in
    (6, memory_line, save_memory names same c.save.ensures.takes c.save.ensures.tries, c.say_memory.ensures)
