use Rattle.std.proofs.Common.{ℕ, List, Option, length, refl, sym, ◌∙◌, ap, subst, arith}
use Rattle.mq_block_trace.specs.Lines.{empty_map}
use Rattle.mq_block_trace.specs.Marks.{AreMarks}
use Rattle.mq_blocks.specs.Journal.{is_among}
use Rattle.mq_command_blocks.specs.Live.{HoldsMap}
use Rattle.mq_drive.specs.Seats.{name_of}
use Rattle.mq_ledger.specs.History.{map_after}
use Rattle.mq_loose_order.specs.Dependence.{kept}
use Rattle.mq_loose_text.specs.Meaning.{drawn_in, map_in}
use Rattle.mq_loose_text.specs.declared.line.LooseLine.{LooseLine}
use Rattle.mq_loose_run.proofs.ReadRuns.{blocks_many, is_loose_run, live_are, marks_are, readable_run, shown_run}
use Rattle.mq_loose_run.proofs.run.run_loose_text.Goals as goal

pub close-requires-clause-fuse : goal.close-requires-clause-fuse
close-requires-clause-fuse c = c.in_ok-acknowledged.ensures.own

pub close-requires-clause-all : goal.close-requires-clause-all
close-requires-clause-all c = c.in_ok-acknowledged.ensures.count ∙ sym c.in_ok-fuse.ensures.fuse.1

pub read_left-requires-clause-drive : goal.read_left-requires-clause-drive
read_left-requires-clause-drive c =
    let f = name_of c.in_ok-fuse.fuse in
    let lines : List LooseLine = c.args.text.now in
    (shown_run c.args.cut c.run_geometry-geometry.result lines f c.in_ok-acknowledged.acknowledged.items c.in_ok-acknowledged.left.images.items c.in_ok-acknowledged.left.seats.items c.close.result c.in_ok-acknowledged.ensures c.in_ok-fuse.ensures.fuse.0 c.close.ensures.happened c.close.ensures.most c.close.ensures.off).drive

pub read_left-requires-clause-readable : goal.read_left-requires-clause-readable
read_left-requires-clause-readable c =
    let f = name_of c.in_ok-fuse.fuse in
    let lines : List LooseLine = c.args.text.now in
    readable_run c.args.cut lines c.in_ok-acknowledged.acknowledged.items _
    (shown_run c.args.cut c.run_geometry-geometry.result lines f c.in_ok-acknowledged.acknowledged.items c.in_ok-acknowledged.left.images.items c.in_ok-acknowledged.left.seats.items c.close.result c.in_ok-acknowledged.ensures c.in_ok-fuse.ensures.fuse.0 c.close.ensures.happened c.close.ensures.most c.close.ensures.off)

pub live_blocks-requires-clause-homes : goal.live_blocks-requires-clause-homes
live_blocks-requires-clause-homes c =
    let f = name_of c.in_ok-fuse.fuse in
    let lines : List LooseLine = c.args.text.now in
    let shown = shown_run c.args.cut c.run_geometry-geometry.result lines f c.in_ok-acknowledged.acknowledged.items c.in_ok-acknowledged.left.images.items c.in_ok-acknowledged.left.seats.items c.close.result c.in_ok-acknowledged.ensures c.in_ok-fuse.ensures.fuse.0 c.close.ensures.happened c.close.ensures.most c.close.ensures.off in
    let many = blocks_many c.args.cut lines c.in_ok-acknowledged.acknowledged.items _ c.run_geometry-geometry.ensures shown c.in_ok-left.left.set.items c.in_ok-left.left.blocks.items c.in_ok-left.ensures.read in
    let same = ap length c.deref-2.ensures.value in
    omega (arith, many, same)

pub live_blocks-requires-clause-marks : goal.live_blocks-requires-clause-marks
live_blocks-requires-clause-marks c = ap length c.deref-3.ensures.value ∙ c.in_ok-marks.ensures.whole

pub returns : goal.returns
returns c =
    let f = name_of c.in_ok-fuse.fuse in
    let lines : List LooseLine = c.args.text.now in
    let ack : List ℕ = c.in_ok-acknowledged.acknowledged.items in
    let shown = shown_run c.args.cut c.run_geometry-geometry.result lines f ack c.in_ok-acknowledged.left.images.items c.in_ok-acknowledged.left.seats.items c.close.result c.in_ok-acknowledged.ensures c.in_ok-fuse.ensures.fuse.0 c.close.ensures.happened c.close.ensures.most c.close.ensures.off in
    let set : List ℕ = c.in_ok-left.left.set.items in
    let blocks : List (Option (List ℕ)) = c.in_ok-left.left.blocks.items in
    let read = c.in_ok-left.ensures.read in
    let geometry = c.run_geometry-geometry.ensures in
    let marks = marks_are c.args.cut lines ack _ geometry shown set blocks read c.in_ok-marks.marks.items (subst (λ (ns : List ℕ). AreMarks (map_after empty_map (kept (λ (n : ℕ). is_among n ns) (drawn_in lines))) c.in_ok-marks.marks.items) c.deref.ensures.value c.in_ok-marks.ensures.marks) in
    let holds = live_are c.args.cut lines ack _ geometry shown set blocks read in
    let live = c.in_ok-live.ensures (map_in shown.set lines) (subst (AreMarks (map_in shown.set lines)) (sym c.deref-3.ensures.value) marks) (subst (λ (l : List (Option (List ℕ))). HoldsMap l (map_in shown.set lines)) (sym c.deref-2.ensures.value) holds) in
    is_loose_run c.args.cut lines ack _ geometry shown set blocks read _ refl refl live c.in_ok-left.ensures.same
