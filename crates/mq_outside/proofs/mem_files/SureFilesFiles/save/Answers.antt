use Rattle.std.proofs.Common.{ap, Some}
use Rattle.mq_outside.proofs.OutsideLemmas.{certain_in-put}
use Rattle.mq_outside.proofs.mem_files.SureFilesFiles.save.Goals as goal

pub returns-in-Ok-clause-names : goal.returns-in-Ok-clause-names
returns-in-Ok-clause-names c =
    ap Some (certain_in-put c.args.self.now.entries.items c.put.new.entries.items c.args.name.now c.args.bytes.now c.in-Ok.ensures.ok)
