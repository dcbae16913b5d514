use Rattle.mq_drive.specs.Emu.{emu_faults, emu_state}
use Rattle.mq_replica.specs.Replicas.{replica_state}
use Rattle.mq_replica.specs.Views.{below, faults_below}
use Rattle.mq_command_replicate.proofs.Offered.{once_offered, twice_offered}
use Rattle.mq_command_replicate.proofs.feeding.offer.Goals as goal

pub returns-in-Once-clause-has : goal.returns-in-Once-clause-has
returns-in-Once-clause-has c =
    (once_offered (replica_state (below emu_state) (faults_below emu_faults) c.args.replica.now) c.args.update.now c.in_ok-reached.reached (replica_state (below emu_state) (faults_below emu_faults) c.offer_once.new.replica) c.requires.next c.in_ok-reached.ensures).1

pub returns-in-Twice-clause-has : goal.returns-in-Twice-clause-has
returns-in-Twice-clause-has c =
    let once = once_offered (replica_state (below emu_state) (faults_below emu_faults) c.args.replica.now) c.args.update.now c.in_ok-reached.reached (replica_state (below emu_state) (faults_below emu_faults) c.offer_once.new.replica) c.requires.next c.in_ok-reached.ensures in
    twice_offered (replica_state (below emu_state) (faults_below emu_faults) c.args.replica.now) c.args.update.now (replica_state (below emu_state) (faults_below emu_faults) c.offer_once.new.replica) c.offer_once-in-Twice.result (replica_state (below emu_state) (faults_below emu_faults) c.offer_once-in-Twice.new.replica) once.1 once.2 c.offer_once-in-Twice.ensures
