use Rattle.std.proofs.Common.{◌≡◌, ◌<◌, ◌≤◌, length, get_or, map, ap, sym, ◌∙◌, arith}
use Rattle.std.specs.Prelude.{Some, slice_get}
use Rattle.std.proofs.Math.Seq.{map-set_same}
use Rattle.std.proofs.lemmas.List.Elements.{All-set}
use Rattle.mq_calls.specs.Sessions.{IsReady}
use Rattle.mq_turns.specs.AtDesk.{AtDesk, view}
use Rattle.mq_run.proofs.LinesGrowing.{got, image_at}
use Rattle.mq_run.proofs.EndingHearing.{below_later, heard_next, seen_is}
use Rattle.mq_run.proofs.ending.tell_first.Goals as goal

pub loop-at-preserved : goal.loop-at-preserved
loop-at-preserved g c =
    let i = c.loop-at.invariant in
    let at = c.loop-at.at in
    let one = c.index-others-at.result in
    let heard = c.tell.ensures.to in
    let within : at < length c.loop-at.others = let l = c.loop-at.auto.others in let t = c.loop-at-test.true in omega arith in
    let here : slice_get (map (λ s. view s.chair) c.args.others.now) at ≡ Some (view (get_or c.loop-at.others at one).chair) =
    ap (λ vs. slice_get vs at) (sym i.views) ∙ image_at (λ s. view s.chair) c.loop-at.others at (get_or c.loop-at.others at one) (got c.loop-at.others at one within) in
    let now : (view c.tell.new.to.chair).seen ≡ heard.0 = ap (λ v. v.seen) heard.1 in
    let up : (view c.loop-at.first.chair).seen ≤ (view c.tell.new.to.chair).seen = let b = heard.3.0 in omega arith in
    record {
      first = (c.tell.ensures.desk.1, c.tell.ensures.to_ready);
      others = All-set (λ s. AtDesk c.args.files.now.desk s.chair × IsReady c.args.files.now.geometry s.queue s.calls s.held (view s.chair)) c.loop-at.others at c.tell.new.from (c.tell.ensures.desk.0, c.tell.ensures.from_ready) i.others;
      views = map-set_same (λ s. view s.chair) c.loop-at.others at c.tell.new.from one c.tell.ensures.from ∙ i.views;
      is = seen_is (view c.args.first.now.chair) (view c.loop-at.first.chair) (view c.tell.new.to.chair) heard.0 heard.1 i.is;
      later = let l = i.later in omega arith;
      each = heard_next (map (λ s. view s.chair) c.args.others.now) at (view c.loop-at.first.chair).seen (view c.tell.new.to.chair).seen (view (get_or c.loop-at.others at one).chair) here up i.each (below_later heard.0 (view c.tell.new.to.chair).seen (view (get_or c.loop-at.others at one).chair) (omega arith) heard.2);
    }
