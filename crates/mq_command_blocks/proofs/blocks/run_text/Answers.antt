use Rattle.std.proofs.Common.{ℕ, length, sym, ◌∙◌, ap, subst, arith}
use Rattle.mq_blocks.specs.Geometry.{homes_of}
use Rattle.mq_block_trace.specs.Lines.{map_after}
use Rattle.mq_block_trace.specs.Marks.{AreMarks}
use Rattle.mq_command_blocks.specs.Live.{HoldsMap}
use Rattle.mq_command_blocks.specs.Picked.{IsRestarted, IsRunBy}
use Rattle.mq_command_blocks.proofs.CutsDrives.{lines_below, text_homes}
use Rattle.mq_command_blocks.proofs.CutsTexts.{prefix_within, run_output}
use Rattle.mq_command_blocks.proofs.Left.{keeps_left, keeps_trace}
use Rattle.mq_command_blocks.proofs.RestartStanding.{holds_lines}
use Rattle.mq_command_blocks.proofs.blocks.run_text.Goals as goal

pub commit_fresh-requires-clause-below : goal.commit_fresh-requires-clause-below
commit_fresh-requires-clause-below c =
    lines_below (homes_of c.text_geometry-geometry.result) c.args.text.now (text_homes c.text_geometry-geometry.result c.text_geometry-geometry.ensures) c.requires.good.0

pub left_of-requires : goal.left_of-requires
left_of-requires c = c.in_ok-image.ensures.stands.2.drive

pub stands_after-requires-clause-drive : goal.stands_after-requires-clause-drive
stands_after-requires-clause-drive c = c.in_ok-image.ensures.stands.2.drive

pub stands_after-requires-clause-readable : goal.stands_after-requires-clause-readable
stands_after-requires-clause-readable c = let shows = c.in_ok-image.ensures.stands.2.shows in (shows.ds, shows.reaches)

pub live_marks-requires-clause-count : goal.live_marks-requires-clause-count
live_marks-requires-clause-count c =
    let image = c.in_ok-image.ensures.stands in
    let standing = c.in_ok-standing.standing in
    let holds = holds_lines c.args.text.now c.args.cut image.0 c.in_ok-image.image standing.prefix standing.blocks.items image.2 c.in_ok-standing.ensures.stands in
    let same = holds.prefix_is in
    let within = prefix_within c.args.text.now c.args.cut image.0 image.1 in
    omega (arith, same, within)

pub live_blocks-requires-clause-homes : goal.live_blocks-requires-clause-homes
live_blocks-requires-clause-homes c =
    let image = c.in_ok-image.ensures.stands in
    let standing = c.in_ok-standing.standing in
    let holds = holds_lines c.args.text.now c.args.cut image.0 c.in_ok-image.image standing.prefix standing.blocks.items image.2 c.in_ok-standing.ensures.stands in
    let many = ap length c.deref.ensures.value ∙ holds.size in
    omega (arith, many)

pub returns : goal.returns
returns c =
    let lines = c.args.text.now in
    let image = c.in_ok-image.ensures.stands in
    let standing = c.in_ok-standing.standing in
    let holds = holds_lines lines c.args.cut image.0 c.in_ok-image.image standing.prefix standing.blocks.items image.2 c.in_ok-standing.ensures.stands in
    let map : HoldsMap c.deref.result.now (map_after lines image.0) = subst (λ (l : _). HoldsMap l (map_after lines image.0)) (sym c.deref.ensures.value) holds.map in
    let marks : AreMarks (map_after lines image.0) c.deref-2.result.now =
    subst (λ (l : _). AreMarks (map_after lines image.0) l) (sym c.deref-2.ensures.value) (subst (λ (n : ℕ). AreMarks (map_after lines n) c.in_ok-marks.marks.items) holds.prefix_is c.in_ok-marks.ensures.1) in
    let live = c.in_ok-live.ensures (map_after lines image.0) marks map in
    let output = run_output lines image.0 standing.prefix c.in_ok-output.output.items c.deref-3.result.now holds.prefix_is c.in_ok-output.ensures (c.deref-3.ensures.value ∙ live) in
    let run : IsRunBy lines c.args.cut c.args.again c.args.pick image.0 c.in_ok-image.image = record {
      left = image.2;
      picked = c.in_ok-image.ensures.chosen;
      stored = standing.blocks.items;
      restarted = subst (λ (n : ℕ). IsRestarted c.in_ok-image.image c.args.again c.args.pick n standing.blocks.items) holds.prefix_is c.in_ok-standing.ensures.chosen;
      holds = holds.map;
    } in (
      image.0,
      c.in_ok-image.image,
      image.1,
      output,
      run,
      keeps_left c.args.wanted.left c.in_ok-image.image c.in_ok-left.left c.in_ok-left.ensures.none c.in_ok-left.ensures.some,
      keeps_trace c.args.wanted.traced lines c.args.cut c.in_ok-traced.traced c.in_ok-traced.ensures.none c.in_ok-traced.ensures.some,
    )
