use Rattle.std.proofs.Common.{◌≡◌, ◌≤◌, map, take}
use Rattle.std.specs.List.{All}
use Rattle.mq_calls.specs.Sessions.{IsReady}
use Rattle.mq_turns.specs.AtDesk.{AtDesk, view}
use Rattle.mq_turns.specs.Desk.{Below}
use Rattle.mq_turns.specs.Lists.{Each}
use Rattle.mq_run.proofs.ending.tell_first.Given as goal

abbrev pub invariant-loop-at : goal.invariant-loop-at
invariant-loop-at g l = record {
  first : AtDesk l.files.desk l.first.chair × IsReady l.files.geometry l.first.queue l.first.calls l.first.held (view l.first.chair);
  others : All (λ s. AtDesk l.files.desk s.chair × IsReady l.files.geometry s.queue s.calls s.held (view s.chair)) l.others;
  views : map (λ s. view s.chair) l.others ≡ map (λ s. view s.chair) l.initial.others;
  is : view l.first.chair ≡ record (view l.initial.first.chair) { seen = (view l.first.chair).seen };
  later : (view l.initial.first.chair).seen ≤ (view l.first.chair).seen;
  each : Each (λ v. Below (view l.first.chair).seen v) (take l.at (map (λ s. view s.chair) l.initial.others));
}
