use Rattle.std.proofs.Common.{ℕ, map, subst}
use Rattle.std.specs.String.{string_bytes}
use Rattle.mq_command_io.specs.Ending.{EndsWith}
use Rattle.mq_kv_cli.specs.Asked.{apply, make}
use Rattle.mq_kv_tool.proofs.Faults.{fault-told, memory-told}
use Rattle.mq_kv_tool.proofs.ProgramEndings.{contents_told, covered_told, done_told, fault_told, misread_told, names_told, said_told, same_told, status_told, takes_told, usage-where, usage_told}
use Rattle.mq_kv_tool.proofs.program.kv.Goals as goal

pub returns-clause-status : goal.returns-clause-status
returns-clause-status g c = status_told (map string_bytes c.args.words.now) (g.F.Files.state c.args.files.now) (g.F.Files.state c.read_and_run.new.files) c.read_and_run.ensures.ends.0 c.read_and_run.ensures.ends.1 c.read_and_run.result (g.K.Sink.state c.args.out.now) (g.K.Sink.state c.read_and_run.new.out) c.read_and_run.ensures.ends.2 c.read_and_run.ensures.ends.3

pub returns-clause-said : goal.returns-clause-said
returns-clause-said g c = said_told (map string_bytes c.args.words.now) (g.F.Files.state c.args.files.now) (g.F.Files.state c.read_and_run.new.files) c.read_and_run.ensures.ends.0 c.read_and_run.ensures.ends.1 c.read_and_run.result (g.K.Sink.state c.args.out.now) (g.K.Sink.state c.read_and_run.new.out) c.read_and_run.ensures.ends.2 c.read_and_run.ensures.ends.3

pub returns-clause-usage : goal.returns-clause-usage
returns-clause-usage g c = usage_told (map string_bytes c.args.words.now) (g.F.Files.state c.args.files.now) (g.F.Files.state c.read_and_run.new.files) c.read_and_run.ensures.ends.0 c.read_and_run.ensures.ends.1 c.read_and_run.result (g.K.Sink.state c.args.out.now) (g.K.Sink.state c.read_and_run.new.out) c.read_and_run.ensures.ends.2 c.read_and_run.ensures.ends.3

pub returns-clause-usage_where : goal.returns-clause-usage_where
returns-clause-usage_where g c = usage-where (map string_bytes c.args.words.now) (g.F.Files.state c.args.files.now) (g.F.Files.state c.read_and_run.new.files) c.read_and_run.ensures.ends.0 c.read_and_run.ensures.ends.1 c.read_and_run.result (g.K.Sink.state c.args.out.now) (g.K.Sink.state c.read_and_run.new.out) c.read_and_run.ensures.ends.2 c.read_and_run.ensures.ends.3

pub returns-clause-misread : goal.returns-clause-misread
returns-clause-misread g c = misread_told (map string_bytes c.args.words.now) (g.F.Files.state c.args.files.now) (g.F.Files.state c.read_and_run.new.files) c.read_and_run.ensures.ends.0 c.read_and_run.ensures.ends.1 c.read_and_run.result (g.K.Sink.state c.args.out.now) (g.K.Sink.state c.read_and_run.new.out) c.read_and_run.ensures.ends.2 c.read_and_run.ensures.ends.3

pub returns-clause-fault : goal.returns-clause-fault
returns-clause-fault g c = fault_told (map string_bytes c.args.words.now) (g.F.Files.state c.args.files.now) (g.F.Files.state c.read_and_run.new.files) c.read_and_run.ensures.ends.0 c.read_and_run.ensures.ends.1 c.read_and_run.result (g.K.Sink.state c.args.out.now) (g.K.Sink.state c.read_and_run.new.out) c.read_and_run.ensures.ends.2 c.read_and_run.ensures.ends.3

pub returns-clause-fault_where : goal.returns-clause-fault_where
returns-clause-fault_where g c = same_told (map string_bytes c.args.words.now) (g.F.Files.state c.args.files.now) (g.F.Files.state c.read_and_run.new.files) c.read_and_run.ensures.ends.0 c.read_and_run.ensures.ends.1 c.read_and_run.result (g.K.Sink.state c.args.out.now) (g.K.Sink.state c.read_and_run.new.out) c.read_and_run.ensures.ends.2 c.read_and_run.ensures.ends.3

pub returns-clause-takes : goal.returns-clause-takes
returns-clause-takes g c = takes_told (map string_bytes c.args.words.now) (g.F.Files.state c.args.files.now) (g.F.Files.state c.read_and_run.new.files) c.read_and_run.ensures.ends.0 c.read_and_run.ensures.ends.1 c.read_and_run.result (g.K.Sink.state c.args.out.now) (g.K.Sink.state c.read_and_run.new.out) c.read_and_run.ensures.ends.2 c.read_and_run.ensures.ends.3

pub returns-clause-names : goal.returns-clause-names
returns-clause-names g c = names_told (map string_bytes c.args.words.now) (g.F.Files.state c.args.files.now) (g.F.Files.state c.read_and_run.new.files) c.read_and_run.ensures.ends.0 c.read_and_run.ensures.ends.1 c.read_and_run.result (g.K.Sink.state c.args.out.now) (g.K.Sink.state c.read_and_run.new.out) c.read_and_run.ensures.ends.2 c.read_and_run.ensures.ends.3

pub returns-clause-contents : goal.returns-clause-contents
returns-clause-contents g c = contents_told (map string_bytes c.args.words.now) (g.F.Files.state c.args.files.now) (g.F.Files.state c.read_and_run.new.files) c.read_and_run.ensures.ends.0 c.read_and_run.ensures.ends.1 c.read_and_run.result (g.K.Sink.state c.args.out.now) (g.K.Sink.state c.read_and_run.new.out) c.read_and_run.ensures.ends.2 c.read_and_run.ensures.ends.3

pub returns-clause-made : goal.returns-clause-made
returns-clause-made g c = λ image asks zero.
    let ends = c.read_and_run.ensures.ends in
    done_told (map string_bytes c.args.words.now) (g.F.Files.state c.args.files.now) (g.F.Files.state c.read_and_run.new.files) (make image) (g.K.Sink.state c.args.out.now) (g.K.Sink.state c.read_and_run.new.out) ends.0 ends.1 c.read_and_run.result asks ends.2 ends.3 zero

pub returns-clause-applied : goal.returns-clause-applied
returns-clause-applied g c = λ image file options asks zero.
    let ends = c.read_and_run.ensures.ends in
    done_told (map string_bytes c.args.words.now) (g.F.Files.state c.args.files.now) (g.F.Files.state c.read_and_run.new.files) (apply image file options) (g.K.Sink.state c.args.out.now) (g.K.Sink.state c.read_and_run.new.out) ends.0 ends.1 c.read_and_run.result asks ends.2 ends.3 zero

pub returns-clause-covered : goal.returns-clause-covered
returns-clause-covered g c = λ a held asks told.
    let ends = c.read_and_run.ensures.ends in
    covered_told held (g.F.Files.state c.args.files.now) told (map string_bytes c.args.words.now) a (g.F.Files.state c.read_and_run.new.files) ends.0 ends.1 c.read_and_run.result (g.K.Sink.state c.args.out.now) (g.K.Sink.state c.read_and_run.new.out) asks ends.2 ends.3

pub returns-clause-fault_at : goal.returns-clause-fault_at
returns-clause-fault_at g c = λ four.
    let old = g.K.Sink.state c.args.out.now in
    let new = g.K.Sink.state c.read_and_run.new.out in
    let ends = c.read_and_run.ensures.ends in
    fault-told (map string_bytes c.args.words.now) (g.F.Files.state c.args.files.now) (g.F.Files.state c.read_and_run.new.files) old new ends.0 ends.1 ends.2 (subst (λ (n : ℕ). EndsWith ends.0 ends.1 n old new) four ends.3)

pub returns-clause-memory : goal.returns-clause-memory
returns-clause-memory g c = λ six.
    let old = g.K.Sink.state c.args.out.now in
    let new = g.K.Sink.state c.read_and_run.new.out in
    let ends = c.read_and_run.ensures.ends in
    memory-told (map string_bytes c.args.words.now) (g.F.Files.state c.args.files.now) (g.F.Files.state c.read_and_run.new.files) old new ends.0 ends.1 ends.2 (subst (λ (n : ℕ). EndsWith ends.0 ends.1 n old new) six ends.3)
