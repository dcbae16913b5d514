use Rattle.std.proofs.Common.{ℕ, List, Option, length, sym, ◌∙◌, subst}
use Rattle.mq_block_text.specs.declared.item.BlockItem.{BlockItem}
use Rattle.mq_block_trace.specs.Lines.{map_after}
use Rattle.mq_block_trace.specs.Marks.{AreMarks}
use Rattle.mq_command_blocks.specs.Live.{HoldsMap}
use Rattle.mq_image.specs.File.{DriveImage}
use Rattle.mq_command_replicate.proofs.LeftReplicas.{live_held, output_is, replica_of}
use Rattle.mq_command_replicate.proofs.replica.run_text.Goals as goal

pub returns : goal.returns
returns c =
    let lines : List (List BlockItem) = c.args.text.now in
    let x : DriveImage = c.in_ok-reached.image in
    let left = c.in_ok-reached.ensures.left in
    let stood = c.in_ok-homes.ensures in
    let all = c.in_ok-reached.ensures.reached in
    let marks : AreMarks (map_after lines (length lines)) c.deref-2.result.now =
    subst (AreMarks (map_after lines (length lines))) (sym c.deref-2.ensures.value) (subst (λ (n : ℕ). AreMarks (map_after lines n) c.in_ok-marks.marks.items) (c.reached.view_is ∙ all) c.in_ok-marks.ensures.1) in
    let holds : HoldsMap c.deref.result.now (map_after lines (length lines)) =
    subst (λ (l : List (Option (List ℕ))). HoldsMap l (map_after lines (length lines))) (sym c.deref.ensures.value) (live_held lines x c.in_ok-homes.homes.items left stood) in
    let live = c.in_ok-live.ensures (map_after lines (length lines)) marks holds in (
      x,
      replica_of lines x c.in_ok-homes.homes.items left stood,
      output_is lines c.in_ok-reached.reached c.in_ok-output.output.items c.deref-3.result.now all c.in_ok-output.ensures (c.deref-3.ensures.value ∙ live),
      c.in_ok-file.ensures,
    )
