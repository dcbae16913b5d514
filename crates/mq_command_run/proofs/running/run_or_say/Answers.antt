use Rattle.std.proofs.Common.{List, ℕ, Bor, map, sym, ◌∙◌, subst}
use Rattle.mq_command_run.specs.RunsScripts.{AreLoaded, no_image, no_scripts}
use Rattle.mq_command_images.specs.declared.answer.Answer.{Answer}
use Rattle.mq_command_io.specs.Ending.{EndsWith}
use Rattle.mq_outside.specs.Outside.{SinkState}
use Rattle.mq_script.specs.Scripts.{Script}
use Rattle.mq_command_run.proofs.RunsScripts.{run-refused, run-saved, some-loaded}
use Rattle.mq_command_run.proofs.running.run_or_say.Goals as goal

pub returns-in-Err : goal.returns-in-Err
returns-in-Err g c =
    let refused = c.in-Err.ensures.refused in
    (refused.0, refused.1, no_image refused.2, refused.3)

pub returns-in-Err-load_scripts : goal.returns-in-Err-load_scripts
returns-in-Err-load_scripts g c =
    let sink = g.K.Sink.state in
    let load = c.in-Ok.ensures.ok in
    let refused = c.in-Err-load_scripts.ensures.refused in
    (refused.0, refused.1, no_scripts load.0 c.in-Ok.image (g.F.Files.state c.load_image.new.files) load.1 load.2 refused.2, subst (λ (s : SinkState). EndsWith refused.0 refused.1 c.in-Err-load_scripts.status s (sink c.load_scripts.new.out)) c.in-Ok.ensures.silent refused.3)

pub returns-in-Ok-run_to_file : goal.returns-in-Ok-run_to_file
returns-in-Ok-run_to_file g c =
    let files = g.F.Files.state in
    let sink = g.K.Sink.state in
    let load = c.in-Ok.ensures.ok in
    let names = map (λ (s : Bor (List ℕ)). s.now) c.args.scripts.now in
    run-saved c.args.options c.args.name.now names load.0 c.in-Ok.image c.deref.result.now c.in-Ok-run_to_file.ran.file.items c.in-Ok-run_to_file.ran.answer.status c.in-Ok-run_to_file.ran.answer.text.items
    (files c.args.files.now) (files c.load_image.new.files) (files c.load_scripts.new.files) (files c.save_run.new.files) (sink c.args.out.now) (sink c.load_scripts.new.out) (sink c.save_run.new.out) c.save_run.result
    load.1 load.2
    (subst (λ (l : List Script). AreLoaded names l (files c.load_image.new.files) (files c.load_scripts.new.files)) (sym c.deref.ensures.value) c.in-Ok-load_scripts.ensures.ok)
    (c.in-Ok-load_scripts.ensures.silent ∙ c.in-Ok.ensures.silent)
    c.in-Ok-run_to_file.ensures.ok c.save_run.ensures

pub returns : goal.returns
returns g c =
    let files = g.F.Files.state in
    let sink = g.K.Sink.state in
    let load = c.in-Ok.ensures.ok in
    let names = map (λ (s : Bor (List ℕ)). s.now) c.args.scripts.now in
    run-refused (λ (a : Answer). a.status) (λ (a : Answer). a.text.items) c.args.options c.args.name.now names load.0 c.in-Ok.image c.deref.result.now
    (files c.args.files.now) (files c.load_image.new.files) (files c.load_scripts.new.files) (sink c.args.out.now) (sink c.load_scripts.new.out) (sink c.say_answer.new.out) c.in-Err-run_to_file.answer c.say_answer.result
    load.1 load.2
    (subst (λ (l : List Script). AreLoaded names l (files c.load_image.new.files) (files c.load_scripts.new.files)) (sym c.deref.ensures.value) c.in-Ok-load_scripts.ensures.ok)
    (c.in-Ok-load_scripts.ensures.silent ∙ c.in-Ok.ensures.silent)
    c.in-Err-run_to_file.ensures.refused c.say_answer.ensures

pub run_to_file-requires-clause-some : goal.run_to_file-requires-clause-some
run_to_file-requires-clause-some g c κs within =
    let files = g.F.Files.state in
    some-loaded c.args.scripts.now c.deref.result.now (files c.load_image.new.files) (files c.load_scripts.new.files) c.requires.scripts
    (subst (λ (l : List Script). AreLoaded (map (λ s. s.now) c.args.scripts.now) l (files c.load_image.new.files) (files c.load_scripts.new.files)) (sym c.deref.ensures.value) c.in-Ok-load_scripts.ensures.ok)
