use Rattle.mq_command_images.proofs.Recovers.{done-where, fault-where, unreadable-where}
use Rattle.mq_command_images.proofs.recovering.recover.Goals as goal

pub returns-clause-done_where : goal.returns-clause-done_where
returns-clause-done_where g c = λ bytes x ds top tells read reads.
    let files = g.F.Files.state in
    let sink = g.K.Sink.state in
    done-where c.args.cut c.args.pick c.args.name.now bytes x ds top (files c.args.files.now) (files c.recover_or_say.new.files) (sink c.args.out.now) (sink c.recover_or_say.new.out) c.recover_or_say.result c.recover_or_say.ensures tells read reads

pub returns-clause-refused_where : goal.returns-clause-refused_where
returns-clause-refused_where g c = λ bytes e tells has.
    let files = g.F.Files.state in
    let sink = g.K.Sink.state in
    fault-where c.args.cut c.args.pick c.args.name.now bytes e (files c.args.files.now) (files c.recover_or_say.new.files) (sink c.args.out.now) (sink c.recover_or_say.new.out) c.recover_or_say.result c.recover_or_say.ensures tells has

pub returns-clause-unreadable_where : goal.returns-clause-unreadable_where
returns-clause-unreadable_where g c = λ bytes x e tells read refuses.
    let files = g.F.Files.state in
    let sink = g.K.Sink.state in
    unreadable-where c.args.cut c.args.pick c.args.name.now bytes x e (files c.args.files.now) (files c.recover_or_say.new.files) (sink c.args.out.now) (sink c.recover_or_say.new.out) c.recover_or_say.result c.recover_or_say.ensures tells read refuses
