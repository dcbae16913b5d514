use Rattle.mq_loose_text.proofs.LooseTexts.{exact_of, only_of}
use Rattle.mq_loose_text.proofs.whole.read_loose_text.Goals as goal

pub returns-clause-exact : goal.returns-clause-exact
returns-clause-exact c = exact_of c.args.bytes.now c.read_bytes.result c.read_bytes.ensures.ok c.read_bytes.ensures.refused

pub returns-clause-only : goal.returns-clause-only
returns-clause-only c = only_of c.args.bytes.now c.read_bytes.result c.read_bytes.ensures.ok c.read_bytes.ensures.refused
