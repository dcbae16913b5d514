use Rattle.mq_command_images.specs.declared.answer.Answer.{Answer}
use Rattle.mq_command_images.proofs.Recovers.{not-loaded-ends, refused-ends, saved-ends}
use Rattle.mq_command_images.proofs.recovering.recover_or_say.Goals as goal

pub returns-in-Err : goal.returns-in-Err
returns-in-Err g c =
    let files = g.F.Files.state in
    let sink = g.K.Sink.state in
    not-loaded-ends c.args.cut c.args.pick c.args.name.now (files c.args.files.now) (files c.load_or_say.new.files) (sink c.args.out.now) (sink c.load_or_say.new.out) c.in-Err.status c.in-Err.ensures.refused

pub returns-in-Ok-recover_bytes : goal.returns-in-Ok-recover_bytes
returns-in-Ok-recover_bytes g c =
    let files = g.F.Files.state in
    let sink = g.K.Sink.state in
    saved-ends c.args.cut c.args.pick c.args.name.now c.in-Ok.bytes.items c.deref.result.now c.deref-in-Ok-recover_bytes.result.now c.in-Ok-recover_bytes.recovery.file.items c.in-Ok-recover_bytes.recovery.text.items (files c.args.files.now) (files c.load_or_say.new.files) (files c.save_and_say.new.files)
    (sink c.args.out.now) (sink c.load_or_say.new.out) (sink c.save_and_say.new.out) c.save_and_say.result c.in-Ok.ensures.ok c.in-Ok.ensures.silent c.deref.ensures.value c.deref-in-Ok-recover_bytes.ensures.value c.in-Ok-recover_bytes.ensures.ok c.save_and_say.ensures

pub returns-in-Err-recover_bytes : goal.returns-in-Err-recover_bytes
returns-in-Err-recover_bytes g c =
    let files = g.F.Files.state in
    let sink = g.K.Sink.state in
    refused-ends (λ (a : Answer). a.status) (λ (a : Answer). a.text.items) c.args.cut c.args.pick c.args.name.now c.in-Ok.bytes.items (files c.args.files.now) (files c.load_or_say.new.files) (sink c.args.out.now) (sink c.load_or_say.new.out) (sink c.say_answer.new.out)
    c.in-Err-recover_bytes.answer c.say_answer.result c.in-Ok.ensures.ok c.in-Ok.ensures.silent c.in-Err-recover_bytes.ensures.refused c.say_answer.ensures
