use Rattle.std.proofs.Common.{List}
use Rattle.mq_drive.specs.Emu.{emu_state}
use Rattle.mq_loose_queues.specs.Opening.{home_map}
use Rattle.mq_loose_text.specs.declared.line.LooseLine.{LooseLine}
use Rattle.mq_recover.specs.Drives.{drive_of}
use Rattle.mq_recover.specs.Recovery.{started}
use Rattle.mq_loose_run.specs.Lines.{queues_state}
use Rattle.mq_loose_run.proofs.Opened.{may_open, none_marked, none_run}
use Rattle.mq_loose_run.proofs.run.open_blank.Goals as goal

pub open-requires : goal.open-requires
open-requires c =
    let (fuse, (x, blank, begun)) = c.requires.blank in
    may_open c.args.geometry c.requires.geometry fuse x blank c.args.ports begun c.in_ok-standing.standing c.in_ok-standing.ensures.blocks c.in_ok-standing.ensures.base

pub returns-in-Ok : goal.returns-in-Ok
returns-in-Ok c fuse (x, blank, begun) = (
  started c.args.geometry (drive_of emu_state c.args.ports) (home_map c.in_ok-standing.standing.blocks.items),
  λ (lines : List LooseLine). record {
    run = none_run c.args.geometry c.requires.geometry fuse x blank c.args.ports begun c.in_ok-standing.standing c.in_ok-standing.ensures.blocks c.in_ok-standing.ensures.base (queues_state c.in-Ok.queues) c.in-Ok.ensures.ok lines;
    kept = none_marked lines c.in_ok-marks.marks.items c.in_ok-waits.waits.items (c.in_ok-marks.ensures.items_if_clones_equal (λ y h. h)) (c.in_ok-waits.ensures.items_if_clones_equal (λ y h. h));
  },
)
