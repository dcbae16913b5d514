use Rattle.mq_command_images.specs.Checks.{Checks}
use Rattle.mq_command_images.specs.declared.answer.Answer.{Answer}
use Rattle.mq_command_images.proofs.Checks.{checked-where, unchecked-where}
use Rattle.mq_command_images.proofs.CommandsExact.{refused-where}
use Rattle.mq_command_images.proofs.CommandsSaying.{name-same, says-no-image, says-of-image}
use Rattle.mq_command_images.proofs.checking.check.Goals as goal

pub check_image-requires : goal.check_image-requires
check_image-requires g c = c.in-Ok.ensures.ok.2.drive

pub returns-in-Ok-clause-ends : goal.returns-in-Ok-clause-ends
returns-in-Ok-clause-ends g c =
    let files = g.F.Files.state in
    let sink = g.K.Sink.state in
    says-of-image (λ (a : Answer). a.status) (λ (a : Answer). a.text.items) Checks c.args.name.now c.in-Ok.image (files c.args.files.now) (files c.load_image.new.files) (sink c.args.out.now) (sink c.load_image.new.out) (sink c.say_answer.new.out) c.check_image.result c.say_answer.result
    c.in-Ok.ensures.ok
    c.in-Ok.ensures.silent c.check_image.ensures c.say_answer.ensures

pub returns-in-Ok-clause-contents : goal.returns-in-Ok-clause-contents
returns-in-Ok-clause-contents g c = c.in-Ok.ensures.ok.1.contents

pub returns-in-Err-clause-ends : goal.returns-in-Err-clause-ends
returns-in-Err-clause-ends g c =
    let files = g.F.Files.state in
    let sink = g.K.Sink.state in
    says-no-image Checks c.args.name.now (files c.args.files.now) (files c.load_image.new.files) (sink c.args.out.now) (sink c.load_image.new.out) c.in-Err.status c.in-Err.ensures.refused

pub returns-in-Err-clause-contents : goal.returns-in-Err-clause-contents
returns-in-Err-clause-contents g c =
    let files = g.F.Files.state in
    let refused = c.in-Err.ensures.refused in
    name-same c.args.name.now (files c.args.files.now) (files c.load_image.new.files) refused.0 refused.1 refused.2

pub returns-in-Ok-clause-done_where : goal.returns-in-Ok-clause-done_where
returns-in-Ok-clause-done_where g c = λ bytes x ds top tells read reads.
    let files = g.F.Files.state in
    let sink = g.K.Sink.state in
    checked-where c.args.name.now bytes x ds top (files c.args.files.now) (files c.load_image.new.files) (sink c.args.out.now) (sink c.say_answer.new.out) c.say_answer.result (returns-in-Ok-clause-ends g c) tells read reads

pub returns-in-Err-clause-done_where : goal.returns-in-Err-clause-done_where
returns-in-Err-clause-done_where g c = λ bytes x ds top tells read reads.
    let files = g.F.Files.state in
    let sink = g.K.Sink.state in
    checked-where c.args.name.now bytes x ds top (files c.args.files.now) (files c.load_image.new.files) (sink c.args.out.now) (sink c.load_image.new.out) c.in-Err.status (returns-in-Err-clause-ends g c) tells read reads

pub returns-in-Ok-clause-refused_where : goal.returns-in-Ok-clause-refused_where
returns-in-Ok-clause-refused_where g c = λ bytes e tells has.
    let files = g.F.Files.state in
    let sink = g.K.Sink.state in
    refused-where Checks c.args.name.now bytes e (files c.args.files.now) (files c.load_image.new.files) (sink c.args.out.now) (sink c.say_answer.new.out) c.say_answer.result (returns-in-Ok-clause-ends g c) tells has

pub returns-in-Err-clause-refused_where : goal.returns-in-Err-clause-refused_where
returns-in-Err-clause-refused_where g c = λ bytes e tells has.
    let files = g.F.Files.state in
    let sink = g.K.Sink.state in
    refused-where Checks c.args.name.now bytes e (files c.args.files.now) (files c.load_image.new.files) (sink c.args.out.now) (sink c.load_image.new.out) c.in-Err.status (returns-in-Err-clause-ends g c) tells has

pub returns-in-Ok-clause-unreadable_where : goal.returns-in-Ok-clause-unreadable_where
returns-in-Ok-clause-unreadable_where g c = λ bytes x e tells read refuses.
    let files = g.F.Files.state in
    let sink = g.K.Sink.state in
    unchecked-where c.args.name.now bytes x e (files c.args.files.now) (files c.load_image.new.files) (sink c.args.out.now) (sink c.say_answer.new.out) c.say_answer.result (returns-in-Ok-clause-ends g c) tells read refuses

pub returns-in-Err-clause-unreadable_where : goal.returns-in-Err-clause-unreadable_where
returns-in-Err-clause-unreadable_where g c = λ bytes x e tells read refuses.
    let files = g.F.Files.state in
    let sink = g.K.Sink.state in
    unchecked-where c.args.name.now bytes x e (files c.args.files.now) (files c.load_image.new.files) (sink c.args.out.now) (sink c.load_image.new.out) c.in-Err.status (returns-in-Err-clause-ends g c) tells read refuses
