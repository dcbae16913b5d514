use Rattle.mq_kv_tool.proofs.AppliedExact.{decided}
use Rattle.mq_kv_tool.proofs.applying.apply.Goals as goal

pub returns-clause-decided : goal.returns-clause-decided
returns-clause-decided g c =
    decided c.args.options c.args.name.now c.args.file.now (g.F.Files.state c.args.files.now) (g.F.Files.state c.apply_or_say.new.files) (g.K.Sink.state c.args.out.now) (g.K.Sink.state c.apply_or_say.new.out) c.apply_or_say.result c.apply_or_say.ensures
