use Rattle.std.proofs.Common.{rules, ◌≡◌, ◌∙◌, sym, subst}
use Rattle.mq_block_trace.specs.Lines.{set_in}
use Rattle.mq_replica.specs.Updates.{AreWritesFit, AreWritesRising}
use Rattle.mq_replica.specs.declared.update.Update.{Update}
use Rattle.mq_drive.specs.Emu.{emu_faults, emu_state}
use Rattle.mq_replica.specs.Offers.{ReplicaState}
use Rattle.mq_replica.specs.Replicas.{replica_state}
use Rattle.mq_replica.specs.Views.{below, faults_below}
use Rattle.mq_command_replicate.proofs.Fills.{writes_fit, writes_rise}
use Rattle.mq_command_replicate.proofs.feeding.feed_line.Goals as goal

pub offer-requires-clause-rising : goal.offer-requires-clause-rising
offer-requires-clause-rising c =
    let is : c.in-Some.update.now ≡ c.in_ok-update_of.field-0 = search rules in
    subst (λ (u : Update). AreWritesRising u.writes) (sym (is ∙ c.in_ok-update_of.ensures)) (writes_rise (set_in c.args.line.now))

pub offer-requires-clause-fit : goal.offer-requires-clause-fit
offer-requires-clause-fit c =
    let old : ReplicaState = replica_state (below emu_state) (faults_below emu_faults) c.args.replica.now in
    let is : c.in-Some.update.now ≡ c.in_ok-update_of.field-0 = search rules in
    subst (λ (u : Update). AreWritesFit old.geometry u.writes) (sym (is ∙ c.in_ok-update_of.ensures)) (writes_fit old.geometry c.requires.follows.geometry_is (set_in c.args.line.now))
