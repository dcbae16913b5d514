use Rattle.mq_block_trace.specs.Traced.{traced}
use Rattle.mq_block_trace.proofs.ReadAgain.{read_again}
use Rattle.mq_block_trace.proofs.Spells.{traced_are}
use Rattle.mq_block_trace.proofs.laws.traces_are_read.Goals as goal

pub returns : goal.returns
returns c = λ g lines cut text good. read_again g text c.lines_spell_events.ensures.read (traced lines cut) (traced_are g lines text good cut)
