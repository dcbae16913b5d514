use Rattle.std.proofs.Common.{ℕ, List, subst}
use Rattle.std.specs.Prelude.{codes}
use Rattle.mq_command_io.specs.Ending.{EndsWith, fault_line, too_long_line, memory_line, named_line, load_failed, load_too_long, load_memory}
use Rattle.mq_command_io.proofs.files.load_or_say.Goals as goal

pub returns-in-Err-Failed-clause-refused : goal.returns-in-Err-Failed-clause-refused
returns-in-Err-Failed-clause-refused g c =
    let sink = g.K.Sink.state in (
      4,
      fault_line c.args.name.now,
      load_failed c.load.ensures.names (rw c.in-Err-Failed.field-0-is at c.in-Err-Failed.ensures.cause) (rw c.in-Err-Failed.field-0-is at c.in-Err-Failed.ensures.tries),
      subst (λ (n : List ℕ). EndsWith 4 (named_line (codes "fault load ") n) c.say_named.result (sink c.args.out.now) (sink c.say_named.new.out)) c.as_bytes.ensures.value c.say_named.ensures,
    )

pub returns-in-Err-TooLong-clause-refused : goal.returns-in-Err-TooLong-clause-refused
returns-in-Err-TooLong-clause-refused g c =
    let sink = g.K.Sink.state in
    let gives = rw c.in-Err-TooLong.field-0-is at c.in-Err-TooLong.ensures.gives in
    let same = rw c.in-Err-TooLong.field-0-is at c.in-Err-TooLong.ensures.cause in
    let takes = rw c.in-Err-TooLong.field-0-is at c.in-Err-TooLong.ensures.takes in
    let tries = rw c.in-Err-TooLong.field-0-is at c.in-Err-TooLong.ensures.tries in (
      4,
      too_long_line c.args.name.now,
      load_too_long c.load.ensures.names gives same takes.1 tries,
      subst (λ (n : List ℕ). EndsWith 4 (named_line (codes "too long ") n) c.say_named-in-Err-TooLong.result (sink c.args.out.now) (sink c.say_named-in-Err-TooLong.new.out)) c.as_bytes-in-Err-TooLong.ensures.value
          c.say_named-in-Err-TooLong.ensures,
    )

pub returns-in-Err-OutOfMemory-clause-refused : goal.returns-in-Err-OutOfMemory-clause-refused
returns-in-Err-OutOfMemory-clause-refused g c =
    let same = rw c.in-Err-OutOfMemory.field-0-is at c.in-Err-OutOfMemory.ensures.cause in
    let tries = rw c.in-Err-OutOfMemory.field-0-is at c.in-Err-OutOfMemory.ensures.tries in
    (6, memory_line, load_memory c.load.ensures.names same tries, c.say_memory.ensures)
