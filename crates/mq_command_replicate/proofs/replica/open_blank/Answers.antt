use Rattle.mq_command_replicate.proofs.Lasting.{only_memory_opened}
use Rattle.mq_command_replicate.proofs.replica.open_blank.Goals as goal

pub only_memory_to_open-requires : goal.only_memory_to_open-requires
only_memory_to_open-requires c =
    let e = c.in-Err.ensures in
    only_memory_opened c.args.geometry c.args.ports c.in-Err._back c.in-Err.refusal c.requires.may.one c.requires.may.quiet.count c.requires.readable c.requires.lasting e.refused e.image e.cause
