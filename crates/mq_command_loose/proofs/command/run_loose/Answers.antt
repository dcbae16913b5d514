use Rattle.std.proofs.Common.{List, ℕ, Bor, sym, ◌∙◌, subst}
use Rattle.std.specs.Prelude.{option_map}
use Rattle.mq_command_io.specs.Ending.{IsLoaded}
use Rattle.mq_command_io.proofs.Ending.{unless_wanting}
use Rattle.mq_command_blocks.proofs.Parts.{some_map}
use Rattle.mq_command_loose.specs.SaysOfLoose as says
use Rattle.mq_command_loose.proofs.Looses.{loose_decided, not_run, ran}
use Rattle.mq_command_loose.proofs.command.run_loose.Goals as goal

pub returns-in-Err-clause-ends : goal.returns-in-Err-clause-ends
returns-in-Err-clause-ends g c =
    let refused = c.in-Err.ensures.refused in
    (refused.0, refused.1, says.not_loaded refused.2, refused.3)

pub returns-in-Ok-run_bytes-clause-ends : goal.returns-in-Ok-run_bytes-clause-ends
returns-in-Ok-run_bytes-clause-ends g c =
    let files = g.F.Files.state in
    let sink = g.K.Sink.state in
    let load = subst (λ (l : List ℕ). IsLoaded c.args.file.now l (files c.args.files.now) (files c.load_or_say.new.files)) (sym c.deref.ensures.value) c.in-Ok.ensures.ok in
    ran c.args.file.now c.args.cut (option_map (λ (s : Bor (List ℕ)). s.now) c.args.save) c.deref.result.now (files c.args.files.now) (files c.load_or_say.new.files) (files c.finish.new.files) c.finish.result (sink c.args.out.now) (sink c.load_or_say.new.out) (sink c.finish.new.out)
    load c.in-Ok.ensures.silent c.in-Ok-run_bytes.run'.file c.in-Ok-run_bytes.run'.text.items c.is_some.result c.in-Ok-run_bytes.ensures.ok
    (c.is_some.ensures ∙ sym (some_map (λ (s : Bor (List ℕ)). s.now) c.args.save)) c.finish.ensures

pub returns-in-Ok-run_bytes-clause-decided : goal.returns-in-Ok-run_bytes-clause-decided
returns-in-Ok-run_bytes-clause-decided g c = λ wanted decides.
    let files = g.F.Files.state in
    let sink = g.K.Sink.state in
    let ends = returns-in-Ok-run_bytes-clause-ends g c in
    loose_decided c.args.file.now c.args.cut (option_map (λ (s : Bor (List ℕ)). s.now) c.args.save) (files c.args.files.now) (files c.finish.new.files) c.finish.result ends.0 ends.1 ends.2
    (unless_wanting ends.0 ends.1 c.finish.result (sink c.args.out.now) (sink c.finish.new.out) ends.3) wanted decides

pub returns-clause-ends : goal.returns-clause-ends
returns-clause-ends g c =
    let files = g.F.Files.state in
    let sink = g.K.Sink.state in
    let load = subst (λ (l : List ℕ). IsLoaded c.args.file.now l (files c.args.files.now) (files c.load_or_say.new.files)) (sym c.deref.ensures.value) c.in-Ok.ensures.ok in
    not_run c.args.file.now c.args.cut (option_map (λ (s : Bor (List ℕ)). s.now) c.args.save) c.deref.result.now (files c.args.files.now) (files c.load_or_say.new.files) c.say_refusal.result (sink c.args.out.now) (sink c.load_or_say.new.out) (sink c.say_refusal.new.out)
    load c.in-Ok.ensures.silent c.in-Err-run_bytes.refusal c.in-Err-run_bytes.ensures.refused c.say_refusal.ensures

pub returns-clause-decided : goal.returns-clause-decided
returns-clause-decided g c = λ wanted decides.
    let files = g.F.Files.state in
    let sink = g.K.Sink.state in
    let ends = returns-clause-ends g c in
    loose_decided c.args.file.now c.args.cut (option_map (λ (s : Bor (List ℕ)). s.now) c.args.save) (files c.args.files.now) (files c.load_or_say.new.files) c.say_refusal.result ends.0 ends.1 ends.2
    (unless_wanting ends.0 ends.1 c.say_refusal.result (sink c.args.out.now) (sink c.say_refusal.new.out) ends.3) wanted decides
