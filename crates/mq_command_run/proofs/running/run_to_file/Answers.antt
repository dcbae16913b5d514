use Rattle.std.proofs.Common.{◌≢◌, ◌≤◌, length, ◌∙◌, ap, arith}
use Rattle.mq_blocks.specs.Geometry.{queues_of}
use Rattle.mq_command_images.specs.Lines.{volume_line}
use Rattle.mq_command_run.specs.RunsScripts.{RefusesRunning, not_run}
use Rattle.mq_command_images.specs.declared.answer.Answer.{Answer}
use Rattle.mq_image.specs.File.{DriveImage}
use Rattle.mq_image_ops.specs.declared.refusal.StandingRefusal.TheVariants as standing
use Rattle.mq_command_run.proofs.RunsScripts.{many-refused}
use Rattle.mq_command_images.proofs.CommandsSaying.{refused-as}
use Rattle.mq_command_run.proofs.running.run_to_file.Goals as goal

pub returns-then-scripts-queues-clause-refused : goal.returns-then-scripts-queues-clause-refused
returns-then-scripts-queues-clause-refused g c =
    many-refused (λ (a : Answer). a.status) (λ (a : Answer). a.text.items) c.args.image c.args.scripts.now c.queues-queues.result c.refuse_scripts.result c.refuse_scripts.ensures (c.queues-queues.ensures ∙ ap (λ (x : DriveImage). queues_of x.geometry) c.image.view_is) c.if-scripts-queues.true

pub returns-in-Err-clause-refused : goal.returns-in-Err-clause-refused
returns-in-Err-clause-refused g c =
    let same = c.queues-queues.ensures ∙ ap (λ (x : DriveImage). queues_of x.geometry) c.image.view_is in
    let few = c.if-scripts-queues.false in
    let fits : length c.args.scripts.now ≤ queues_of c.args.image.geometry = omega (arith, same, few) in
    refused-as (λ (a : Answer). a.status) (λ (a : Answer). a.text.items) (RefusesRunning c.args.image c.args.scripts.now) (volume_line c.in-Err.refusal) (c.in-Err.refusal ≢ standing.OutOfMemory) c.refuse_volume.result c.refuse_volume.ensures
    (λ other. not_run c.in-Err.refusal fits c.in-Err.ensures.refused other)

pub returns-in-Ok-run_file-clause-ok : goal.returns-in-Ok-run_file-clause-ok
returns-in-Ok-run_file-clause-ok g c =
    let same = c.queues-queues.ensures ∙ ap (λ (x : DriveImage). queues_of x.geometry) c.image.view_is in
    let few = c.if-scripts-queues.false in
    let fits : length c.args.scripts.now ≤ queues_of c.args.image.geometry = omega (arith, same, few) in
    (c.in-Ok.ran, fits, c.in-Ok.ensures.ok, c.in-Ok-run_file.ensures)
