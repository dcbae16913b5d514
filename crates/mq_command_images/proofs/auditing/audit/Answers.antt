use Rattle.std.proofs.Common.{ℕ, List, subst}
use Rattle.std.specs.Prelude.{IfOk}
use Rattle.mq_command_images.specs.Audits.{Audits}
use Rattle.mq_command_images.specs.declared.answer.Answer.{Answer}
use Rattle.mq_command_images.proofs.Audits.{misread-where, trace-where}
use Rattle.mq_command_images.proofs.CommandsSaying.{says, says-not}
use Rattle.mq_command_io.proofs.Ending.{not-loaded-same}
use Rattle.mq_command_images.proofs.auditing.audit.Goals as goal

pub returns-in-Ok-clause-ends : goal.returns-in-Ok-clause-ends
returns-in-Ok-clause-ends g c =
    let files = g.F.Files.state in
    let sink = g.K.Sink.state in
    says (λ (a : Answer). a.status) (λ (a : Answer). a.text.items) Audits c.args.name.now c.in-Ok.bytes.items (files c.args.files.now) (files c.load_or_say.new.files) (sink c.args.out.now) (sink c.load_or_say.new.out) (sink c.say_answer.new.out) c.audit_bytes.result c.say_answer.result
    c.in-Ok.ensures.ok
    c.in-Ok.ensures.silent (subst (λ (l : List ℕ). IfOk c.audit_bytes.result (λ a. Audits l a.status a.text.items)) c.deref.ensures.value c.audit_bytes.ensures) c.say_answer.ensures

pub returns-in-Ok-clause-contents : goal.returns-in-Ok-clause-contents
returns-in-Ok-clause-contents g c = c.in-Ok.ensures.ok.contents

pub returns-in-Err-clause-ends : goal.returns-in-Err-clause-ends
returns-in-Err-clause-ends g c =
    let files = g.F.Files.state in
    let sink = g.K.Sink.state in
    says-not Audits c.args.name.now (files c.args.files.now) (files c.load_or_say.new.files) (sink c.args.out.now) (sink c.load_or_say.new.out) c.in-Err.status c.in-Err.ensures.refused

pub returns-in-Err-clause-contents : goal.returns-in-Err-clause-contents
returns-in-Err-clause-contents g c =
    let files = g.F.Files.state in
    let refused = c.in-Err.ensures.refused in
    not-loaded-same c.args.name.now (files c.args.files.now) (files c.load_or_say.new.files) refused.0 refused.1 refused.2

pub returns-in-Ok-clause-done_where : goal.returns-in-Ok-clause-done_where
returns-in-Ok-clause-done_where g c = λ bytes trace tells is.
    let files = g.F.Files.state in
    let sink = g.K.Sink.state in
    trace-where c.args.name.now bytes trace (files c.args.files.now) (files c.load_or_say.new.files) (sink c.args.out.now) (sink c.say_answer.new.out) c.say_answer.result (returns-in-Ok-clause-ends g c) tells is

pub returns-in-Err-clause-done_where : goal.returns-in-Err-clause-done_where
returns-in-Err-clause-done_where g c = λ bytes trace tells is.
    let files = g.F.Files.state in
    let sink = g.K.Sink.state in
    trace-where c.args.name.now bytes trace (files c.args.files.now) (files c.load_or_say.new.files) (sink c.args.out.now) (sink c.load_or_say.new.out) c.in-Err.status (returns-in-Err-clause-ends g c) tells is

pub returns-in-Ok-clause-refused_where : goal.returns-in-Ok-clause-refused_where
returns-in-Ok-clause-refused_where g c = λ bytes line tells bad.
    let files = g.F.Files.state in
    let sink = g.K.Sink.state in
    misread-where c.args.name.now bytes line (files c.args.files.now) (files c.load_or_say.new.files) (sink c.args.out.now) (sink c.say_answer.new.out) c.say_answer.result (returns-in-Ok-clause-ends g c) tells bad

pub returns-in-Err-clause-refused_where : goal.returns-in-Err-clause-refused_where
returns-in-Err-clause-refused_where g c = λ bytes line tells bad.
    let files = g.F.Files.state in
    let sink = g.K.Sink.state in
    misread-where c.args.name.now bytes line (files c.args.files.now) (files c.load_or_say.new.files) (sink c.args.out.now) (sink c.load_or_say.new.out) c.in-Err.status (returns-in-Err-clause-ends g c) tells bad
