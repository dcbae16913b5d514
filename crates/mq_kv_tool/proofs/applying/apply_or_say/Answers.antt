use Rattle.std.proofs.Common.{List, ℕ, sym, ◌∙◌, subst}
use Rattle.mq_command_images.specs.declared.answer.Answer.{Answer}
use Rattle.mq_command_io.specs.Ending.{EndsWith, IsLoaded}
use Rattle.mq_kv_buckets.specs.declared.operation.KvOp.{KvOp}
use Rattle.mq_kv_text.specs.Files.{IsFile}
use Rattle.mq_kv_tool.specs.Applies.{no_file, no_image}
use Rattle.mq_kv_tool.proofs.Applied.{run-refused, run-saved}
use Rattle.mq_outside.specs.Outside.{SinkState}
use Rattle.mq_kv_tool.proofs.applying.apply_or_say.Goals as goal

pub returns-in-Err : goal.returns-in-Err
returns-in-Err g c =
    let refused = c.in-Err.ensures.refused in
    (refused.0, refused.1, no_image refused.2, refused.3)

pub returns-in-Err-load_groups : goal.returns-in-Err-load_groups
returns-in-Err-load_groups g c =
    let sink = g.K.Sink.state in
    let load = c.in-Ok.ensures.ok in
    let refused = c.in-Err-load_groups.ensures.refused in
    (refused.0, refused.1, no_file load.0 c.in-Ok.image (g.F.Files.state c.load_image.new.files) load.1 load.2 refused.2, subst (λ (s : SinkState). EndsWith refused.0 refused.1 c.in-Err-load_groups.status s (sink c.load_groups.new.out)) c.in-Ok.ensures.silent refused.3)

pub returns-in-Ok-run_to_file : goal.returns-in-Ok-run_to_file
returns-in-Ok-run_to_file g c =
    let files = g.F.Files.state in
    let sink = g.K.Sink.state in
    let text = c.in-Ok-load_groups.ensures.ok in
    run-saved c.args.options c.args.name.now c.args.file.now c.in-Ok.image c.deref.result.now c.in-Ok-run_to_file.ran.file.items c.in-Ok-run_to_file.ran.report.items
    (files c.args.files.now) (files c.load_image.new.files) (files c.load_groups.new.files) (files c.save_run.new.files) (sink c.args.out.now) (sink c.load_groups.new.out) (sink c.save_run.new.out) c.save_run.result
    c.a_run_keeps_its_promise.ensures
    c.in-Ok.ensures.ok
    (text.0, text.1, subst (λ (l : List (List KvOp)). IsFile text.0 l) (sym c.deref.ensures.value) text.2)
    (c.in-Ok-load_groups.ensures.silent ∙ c.in-Ok.ensures.silent)
    c.in-Ok-run_to_file.ensures.ok c.save_run.ensures

pub returns : goal.returns
returns g c =
    let files = g.F.Files.state in
    let sink = g.K.Sink.state in
    let text = c.in-Ok-load_groups.ensures.ok in
    run-refused (λ (a : Answer). a.status) (λ (a : Answer). a.text.items) c.args.options c.args.name.now c.args.file.now c.in-Ok.image c.deref.result.now
    (files c.args.files.now) (files c.load_image.new.files) (files c.load_groups.new.files) (sink c.args.out.now) (sink c.load_groups.new.out) (sink c.say_answer.new.out) c.in-Err-run_to_file.answer c.say_answer.result
    c.in-Ok.ensures.ok
    (text.0, text.1, subst (λ (l : List (List KvOp)). IsFile text.0 l) (sym c.deref.ensures.value) text.2)
    (c.in-Ok-load_groups.ensures.silent ∙ c.in-Ok.ensures.silent)
    c.in-Err-run_to_file.ensures.refused c.say_answer.ensures
