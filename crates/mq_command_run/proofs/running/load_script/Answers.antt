use Rattle.std.proofs.Common.{List, ℕ, sym, subst}
use Rattle.mq_command_run.specs.RunsScripts.{not_loaded}
use Rattle.mq_command_run.specs.RunsScripts as runs
use Rattle.mq_command_images.specs.declared.answer.Answer.{Answer}
use Rattle.mq_command_io.specs.Ending.{EndsWith, IsLoaded, memory_line}
use Rattle.mq_outside.specs.Outside.{SinkState}
use Rattle.mq_command_run.proofs.RunsScripts.{script-says}
use Rattle.mq_command_run.proofs.running.load_script.Goals as goal

pub returns-in-Err-clause-refused : goal.returns-in-Err-clause-refused
returns-in-Err-clause-refused g c =
    let refused = c.in-Err.ensures.refused in
    (refused.0, refused.1, not_loaded refused.2, refused.3)

pub returns-in-Err-read_script-clause-refused : goal.returns-in-Err-read_script-clause-refused
returns-in-Err-read_script-clause-refused g c =
    let files = g.F.Files.state in
    let sink = g.K.Sink.state in
    script-says (λ (a : Answer). a.status) (λ (a : Answer). a.text.items) c.args.name.now c.deref.result.now c.in-Err-read_script.refusal (files c.args.files.now) (files c.load_or_say.new.files) (sink c.args.out.now) (sink c.load_or_say.new.out) (sink c.say_answer.new.out) c.refuse_script.result c.say_answer.result
    (subst (λ (l : List ℕ). IsLoaded c.args.name.now l (files c.args.files.now) (files c.load_or_say.new.files)) (sym c.deref.ensures.value) c.in-Ok.ensures.ok)
    c.in-Ok.ensures.silent c.in-Err-read_script.ensures.agrees c.refuse_script.ensures c.say_answer.ensures

pub returns-clause-refused : goal.returns-clause-refused
returns-clause-refused g c =
    let sink = g.K.Sink.state in
    let load = c.in-Ok.ensures.ok in
    (6, memory_line, runs.RefusesScript.wanting c.in-Ok.bytes.items load, subst (λ (s : SinkState). EndsWith 6 memory_line c.say_memory.result s (sink c.say_memory.new.out)) c.in-Ok.ensures.silent c.say_memory.ensures)
