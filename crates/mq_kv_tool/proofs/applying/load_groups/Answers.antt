use Rattle.std.proofs.Common.{List, ℕ, sym, subst}
use Rattle.mq_command_images.specs.declared.answer.Answer.{Answer}
use Rattle.mq_command_io.specs.Ending.{IsLoaded}
use Rattle.mq_kv_text.specs.Files.{IsMisread, IsRefused}
use Rattle.mq_kv_tool.specs.Applies.{not_loaded}
use Rattle.mq_kv_tool.proofs.Applied.{file-says}
use Rattle.mq_kv_tool.proofs.applying.load_groups.Goals as goal

pub returns-in-Err-clause-refused : goal.returns-in-Err-clause-refused
returns-in-Err-clause-refused g c =
    let refused = c.in-Err.ensures.refused in
    (refused.0, refused.1, not_loaded refused.2, refused.3)

pub returns-clause-refused : goal.returns-clause-refused
returns-clause-refused g c =
    let files = g.F.Files.state in
    let sink = g.K.Sink.state in
    file-says (λ (a : Answer). a.status) (λ (a : Answer). a.text.items) c.args.name.now c.deref.result.now c.in-Err-read_groups.refusal (files c.args.files.now) (files c.load_or_say.new.files) (sink c.args.out.now) (sink c.load_or_say.new.out) (sink c.say_answer.new.out) c.refuse_file.result c.say_answer.result
    (subst (λ (l : List ℕ). IsLoaded c.args.name.now l (files c.args.files.now) (files c.load_or_say.new.files)) (sym c.deref.ensures.value) c.in-Ok.ensures.ok)
    c.in-Ok.ensures.silent c.in-Err-read_groups.ensures.refused c.refuse_file.ensures c.say_answer.ensures
