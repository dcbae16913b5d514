use Rattle.std.proofs.Common.{◌≡◌, ◌<◌, ◌^◌, List, length, sym, ◌∙◌, subst, arith}
use Rattle.std.proofs.lemmas.List.{length-map}
use Rattle.mq_block_text.specs.declared.item.BlockItem.{BlockItem}
use Rattle.mq_blocks.specs.declared.geometry.Geometry.{Geometry}
use Rattle.mq_command_blocks.proofs.OnePort.{has_one, only_one}
use Rattle.mq_drive.specs.Emu.{emu_faults, emu_state}
use Rattle.mq_drive.specs.Seats.{name_of}
use Rattle.mq_recover.specs.Drives.{IsQuiescentDrive, drive_of}
use Rattle.mq_replica.specs.Offers.{ReplicaState}
use Rattle.mq_replica.specs.Replicas.{replica_state}
use Rattle.mq_replica.specs.Views.{below, faults_below}
use Rattle.mq_command_replicate.proofs.LeftReplicas.{left_replica}
use Rattle.mq_command_replicate.proofs.Offered.{few_lines}
use Rattle.mq_command_replicate.proofs.Started.{first, first_number, following, lasting, may_open, no_lines, reached_none, readable}
use Rattle.mq_command_replicate.proofs.replica.follow_until.Goals as goal

pub open_blank-requires : goal.open_blank-requires
open_blank-requires c =
    let g = c.args.geometry in
    let f = name_of c.args.fuse.now in
    record {
      may = may_open g c.requires.geometry f c.in_ok-image.image c.in_ok-image.ensures.is c.in_ok-ports.ports c.in_ok-ports.ensures.drive;
      readable = readable g c.requires.geometry f c.in_ok-image.image c.in_ok-image.ensures.is c.in_ok-ports.ports c.in_ok-ports.ensures.drive;
      lasting = lasting g c.requires.geometry f c.in_ok-image.image c.in_ok-image.ensures.is c.in_ok-ports.ports c.in_ok-ports.ensures.drive c.requires.power;
    }

pub feed_lines-requires-clause-follows : goal.feed_lines-requires-clause-follows
feed_lines-requires-clause-follows c =
    following c.args.geometry c.requires.geometry (name_of c.args.fuse.now) c.in_ok-image.image c.in_ok-image.ensures.is c.in_ok-ports.ports c.in_ok-ports.ensures.drive c.args.text.now (replica_state (below emu_state) (faults_below emu_faults) c.in_ok-replica.replica) c.in_ok-replica.ensures c.requires.power

pub feed_lines-requires-clause-none : goal.feed_lines-requires-clause-none
feed_lines-requires-clause-none c =
    reached_none c.args.geometry c.requires.geometry (name_of c.args.fuse.now) c.in_ok-image.image c.in_ok-image.ensures.is c.in_ok-ports.ports c.in_ok-ports.ensures.drive c.args.text.now (replica_state (below emu_state) (faults_below emu_faults) c.in_ok-replica.replica) c.in_ok-replica.ensures

pub returns-clause-reached : goal.returns-clause-reached
returns-clause-reached c =
    let lines : List (List BlockItem) = c.args.text.now in
    let start : ReplicaState = replica_state (below emu_state) (faults_below emu_faults) c.in_ok-replica.replica in
    let f = name_of c.args.fuse.now in
    let none = no_lines c.args.geometry c.requires.geometry f c.in_ok-image.image c.in_ok-image.ensures.is c.in_ok-ports.ports c.in_ok-ports.ensures.drive lines start c.in_ok-replica.ensures in
    let has = c.in_ok-feed_lines.ensures c.args.geometry (first c.args.geometry c.requires.geometry f c.in_ok-image.image c.in_ok-image.ensures.is c.in_ok-ports.ports c.in_ok-ports.ensures.drive lines start c.in_ok-replica.ensures) none in
    c.reached-reached.ensures ∙ has.reached

pub returns-clause-left : goal.returns-clause-left
returns-clause-left c =
    let lines : List (List BlockItem) = c.args.text.now in
    let g : Geometry = c.args.geometry in
    let start : ReplicaState = replica_state (below emu_state) (faults_below emu_faults) c.in_ok-replica.replica in
    let end : ReplicaState = replica_state (below emu_state) (faults_below emu_faults) c.feed_lines.new.replica in
    let f = name_of c.args.fuse.now in
    let none = no_lines g c.requires.geometry f c.in_ok-image.image c.in_ok-image.ensures.is c.in_ok-ports.ports c.in_ok-ports.ensures.drive lines start c.in_ok-replica.ensures in
    let from = first g c.requires.geometry f c.in_ok-image.image c.in_ok-image.ensures.is c.in_ok-ports.ports c.in_ok-ports.ensures.drive lines start c.in_ok-replica.ensures in
    let number = first_number g c.requires.geometry f c.in_ok-image.image c.in_ok-image.ensures.is c.in_ok-ports.ports c.in_ok-ports.ensures.drive lines start c.in_ok-replica.ensures in
    let has = c.in_ok-feed_lines.ensures g from none in
    let ports = c.into_ports.result in
    let still : IsQuiescentDrive g (drive_of emu_state ports) = subst (λ (h : Geometry). IsQuiescentDrive h (drive_of emu_state ports)) has.geometry (c.into_ports.ensures.quiet has.stopped) in
    let one : length ports.queues.items ≡ 1 = sym (length-map ports.queues.items emu_state) ∙ still.count ∙ c.requires.geometry.queues in
    let p = has_one ports.queues.items one in
    let few : length lines < 2 ^ 32 = (let most = few_lines lines in let all = c.requires.good.1 in omega (arith, most, all)) in
    left_replica c.a_number_is_read_again.ensures g c.requires.geometry lines from few number end has p.0 ports (only_one ports.queues.items p.0 one p.1) c.into_ports.ensures.drive still c.in_ok-left.left.images.items c.in_ok-left.left.seats.items c.in_ok-left.ensures
