use Rattle.std.proofs.Common.{◌<◌, arith}
use Rattle.mq_drive.specs.Emu.{emu_faults, emu_state}
use Rattle.mq_replica.specs.Offers.{ReplicaState, opening_limit}
use Rattle.mq_replica.specs.Replicas.{replica_state}
use Rattle.mq_replica.specs.Views.{below, faults_below}
use Rattle.mq_command_replicate.proofs.Lasting.{never_stopped, only_memory_offered}
use Rattle.mq_command_replicate.proofs.feeding.offer_once.Goals as goal

pub only_memory-requires : goal.only_memory-requires
only_memory-requires c =
    let old : ReplicaState = replica_state (below emu_state) (faults_below emu_faults) c.args.replica.now in
    let r = c.offer.new.self in
    let new : ReplicaState = replica_state (below emu_state) (faults_below emu_faults) r in
    let low : old.reached < opening_limit = (let few = c.requires.low in omega (arith, few)) in
    only_memory_offered old c.args.update.now c.requires.follows low c.requires.fit new (λ same lasts faults risen. never_stopped r.held r.geometry r.reached r.offers r.keeping old.geometry c.requires.follows.geometry_is.queues same lasts faults risen) c.in-Err.refusal c.in-Err.ensures
