use Rattle.std.proofs.Common.{List, ℕ, Bor, refl, ◌∙◌}
use Rattle.std.specs.Prelude.{option_map}
use Rattle.mq_command_run.specs.Generates.{not_saved, wants_memory}
use Rattle.mq_command_io.specs.Ending.{memory_line}
use Rattle.mq_command_io.proofs.Ending.{not-saved-status, unless_wanting}
use Rattle.mq_command_run.proofs.Generates.{played-ends, played-for}
use Rattle.mq_command_run.proofs.workload.generate_and_save.Goals as goal

pub returns-in-Err-clause-ends : goal.returns-in-Err-clause-ends
returns-in-Err-clause-ends g c = (6, memory_line, wants_memory refl, c.say_memory.ensures)

pub returns-in-Err-line_of-clause-ends : goal.returns-in-Err-line_of-clause-ends
returns-in-Err-line_of-clause-ends g c = (6, memory_line, wants_memory refl, c.say_memory-in-Err-line_of.ensures)

pub returns-in-Ok-save_under-clause-ends : goal.returns-in-Ok-save_under-clause-ends
returns-in-Ok-save_under-clause-ends g c =
    let files = g.F.Files.state in
    let sink = g.K.Sink.state in
    played-ends c.args.workload (option_map (λ (s : Bor (List ℕ)). s.now) c.args.save) c.in-Ok.made c.deref.result.now c.as_bytes.result.now (files c.args.files.now) (files c.save_under.new.files) (sink c.args.out.now) (sink c.save_under.new.out) (sink c.say.new.out) c.say.result
    (played-for c.args.workload (λ (s : Bor (List ℕ)). s.now) c.args.save c.is_some-keeps.result c.in-Ok.made c.is_some-keeps.ensures c.in-Ok.ensures) c.deref.ensures.value c.in-Ok-save_under.ensures.ok c.in-Ok-save_under.ensures.silent (c.as_bytes.ensures.value ∙ c.in-Ok-line_of.ensures) c.say.ensures

pub returns-clause-ends : goal.returns-clause-ends
returns-clause-ends g c =
    let refused = c.in-Err-save_under.ensures.refused in
    (refused.0, refused.1, not_saved refused.2 c.in-Ok.made refused.3 (played-for c.args.workload (λ (s : Bor (List ℕ)). s.now) c.args.save c.is_some-keeps.result c.in-Ok.made c.is_some-keeps.ensures c.in-Ok.ensures) refused.4, refused.5)

pub returns-clause-done : goal.returns-clause-done
returns-clause-done g c =
    let refused = c.in-Err-save_under.ensures.refused in
    not-saved-status refused.2 (g.F.Files.state c.args.files.now) (g.F.Files.state c.save_under.new.files) refused.0 refused.1 0 c.in-Err-save_under.status refused.4
    (unless_wanting refused.0 refused.1 c.in-Err-save_under.status (g.K.Sink.state c.args.out.now) (g.K.Sink.state c.save_under.new.out) refused.5)
