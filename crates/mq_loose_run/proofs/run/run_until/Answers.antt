use Rattle.std.proofs.Common.{◌≡◌, ℕ, List, [], length, ◌∙◌, ap, arith}
use Rattle.mq_drive.specs.Seats.{name_of}
use Rattle.mq_ledger.specs.State.{State}
use Rattle.mq_ledger.specs.declared.tx.Tx.{Tx}
use Rattle.mq_loose.specs.Guards.{settled}
use Rattle.mq_loose_queues.specs.Journal.{IsJournal, state_over}
use Rattle.mq_loose_text.specs.Meaning.{drawn_in, numbers_from}
use Rattle.mq_loose_text.specs.declared.line.LooseLine.{LooseLine}
use Rattle.mq_loose_run.specs.Lines.{queues_state}
use Rattle.mq_loose_run.proofs.Counts.{drawn_few}
use Rattle.mq_loose_run.proofs.CutRuns.{cut_run}
use Rattle.mq_loose_run.proofs.run.run_until.Goals as goal

pub open_blank-requires-clause-blank : goal.open_blank-requires-clause-blank
open_blank-requires-clause-blank c = (name_of c.args.fuse.now, (c.in_ok-image.image, c.in_ok-image.ensures.is, c.in_ok-ports.ensures.drive))

pub run_or_stop-requires : goal.run_or_stop-requires
run_or_stop-requires c =
    let opened = c.in_ok-running.ensures (name_of c.args.fuse.now) (c.in_ok-image.image, c.in_ok-image.ensures.is, c.in_ok-ports.ensures.drive) in
    (c.requires.good, name_of c.args.fuse.now, opened.0, opened.1 c.args.text.now)

pub settled_numbers-requires : goal.settled_numbers-requires
settled_numbers-requires c =
    let count = c.commits_in.ensures in
    let few = drawn_few (length c.args.text.now) c.args.text.now c.requires.good (omega arith) in
    omega (arith, count, few)

pub returns : goal.returns
returns c =
    let f = name_of c.args.fuse.now in
    let lines : List LooseLine = c.args.text.now in
    let opened = c.in_ok-running.ensures f (c.in_ok-image.image, c.in_ok-image.ensures.is, c.in_ok-ports.ensures.drive) in
    let start : State = opened.0 in
    let v = queues_state c.run_or_stop.new.running.queues in
    let over = c.in_ok-run_or_stop.ensures f start (opened.1 lines) in
    let ack : List ℕ = c.in_ok-acknowledged.acknowledged.items in
    let ack_are : (s : State) (h : List Tx) → IsJournal s h v → ack ≡ numbers_from (settled (state_over s h [] v)) 1 (length (drawn_in lines)) = λ s h j.
    c.in_ok-acknowledged.ensures s h j ∙ ap (numbers_from (settled (state_over s h [] v)) 1) c.commits_in.ensures in
    cut_run c.loose_queues_are_safe.ensures c.args.geometry c.requires.geometry f start lines c.requires.good v c.into_ports.result c.into_ports.ensures.drive c.into_ports.ensures.faults c.args.pick c.in_ok-left.left.images.items c.in_ok-left.left.seats.items c.in_ok-left.ensures ack ack_are over
