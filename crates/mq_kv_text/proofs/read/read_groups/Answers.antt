use Rattle.mq_kv_text.proofs.FilesOnce.{exact_of, only_of}
use Rattle.mq_kv_text.proofs.read.read_groups.Goals as goal

pub returns-clause-exact : goal.returns-clause-exact
returns-clause-exact c = exact_of (λ v. v.items) c.args.bytes.now c.read_lines.result c.read_lines.ensures.ok c.read_lines.ensures.refused

pub returns-clause-only : goal.returns-clause-only
returns-clause-only c = only_of (λ v. v.items) c.args.bytes.now c.read_lines.result c.read_lines.ensures.ok c.read_lines.ensures.refused
