use Rattle.mq_command_blocks.proofs.RestartStanding.{memory_alone}
use Rattle.mq_command_blocks.proofs.restart.recover_readable.Goals as goal

pub only_memory-requires : goal.only_memory-requires
only_memory-requires c = memory_alone c.args.image c.in-Err.fault c.requires.readable c.in-Err.ensures.refused
