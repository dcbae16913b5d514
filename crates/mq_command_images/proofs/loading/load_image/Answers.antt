use Rattle.std.proofs.Common.{◌≢◌}
use Rattle.mq_command_images.specs.Commands.{SaysNothing, SaysOfImage}
use Rattle.mq_command_images.specs.Lines.{file_line}
use Rattle.mq_command_images.specs.declared.answer.Answer.{Answer}
use Rattle.mq_image.specs.declared.fault.FileFault.TheVariants as file
use Rattle.mq_command_images.proofs.CommandsSaying.{no-image, refused-as, says}
use Rattle.mq_command_images.proofs.loading.load_image.Goals as goal

pub returns-in-Err-read_loaded-clause-refused : goal.returns-in-Err-read_loaded-clause-refused
returns-in-Err-read_loaded-clause-refused g c =
    let files = g.F.Files.state in
    let sink = g.K.Sink.state in
    says (λ (a : Answer). a.status) (λ (a : Answer). a.text.items) (SaysOfImage SaysNothing) c.args.name.now c.in-Ok.bytes.items (files c.args.files.now) (files c.load_or_say.new.files) (sink c.args.out.now) (sink c.load_or_say.new.out) (sink c.say_answer.new.out) c.refuse_file.result c.say_answer.result
    c.in-Ok.ensures.ok
    c.in-Ok.ensures.silent
    (refused-as (λ (a : Answer). a.status) (λ (a : Answer). a.text.items) (SaysOfImage SaysNothing c.in-Ok.bytes.items) (file_line c.in-Err-read_loaded.fault) (c.in-Err-read_loaded.fault ≢ file.OutOfMemory) c.refuse_file.result c.refuse_file.ensures
    (λ other. no-image SaysNothing c.in-Ok.bytes.items c.in-Err-read_loaded.fault c.written_images_are_read.ensures.first c.in-Err-read_loaded.ensures.finds other))
    c.say_answer.ensures
