use Rattle.std.proofs.Common.{◌≡◌, sym, subst}
use Rattle.std.proofs.lemmas.Result.{IfErr-weaker}
use Rattle.mq_turns.specs.AtDesk.{view, start_of}
use Rattle.mq_turns.specs.Desk.{Sees, slot_of}
use Rattle.mq_turns.specs.declared.turn.Turn.TheVariants.{Side}
use Rattle.mq_journal.specs.Draining.{IsPassed, mark_after, report_of}
use Rattle.mq_journal.specs.Numbers.{HoldsSide, IsReported, machine}
use Rattle.mq_journal.proofs.DrainingRefusing.{on_ok_both, passes, refuses, taken_holds, taken_seen}
use Rattle.mq_journal.proofs.draining.drain.Goals as goal

pub drain_side-requires-clause-side : goal.drain_side-requires-clause-side
drain_side-requires-clause-side g c =
    let state = g.P.Port.state in
    let faults = g.P.Port.faults in
    let group = g.G.Groups.group in
    let o = start_of c.args.desk.now in
    let took = c.in-Side.ensures.took in
    let q = c.args.queue in
    let s = c.in-Side.side in
    let own : s.pmr.queue ≡ q = took.3.says.is.queue in
    let holds = taken_holds state faults group o q s took.0 (view c.args.chair.now) c.requires.turn c.requires.above took.3 in
    subst (λ z. HoldsSide state faults group o z s (view c.take-item.new.chair)) (sym own) (subst (λ v. HoldsSide state faults group o q s v) (sym took.1) holds)

pub drain_side-requires-clause-known : goal.drain_side-requires-clause-known
drain_side-requires-clause-known g c =
    let state = g.P.Port.state in
    let faults = g.P.Port.faults in
    let group = g.G.Groups.group in
    let took = c.in-Side.ensures.took in
    (took.0, subst (λ v. Sees (machine state faults group) v took.0) (sym took.1) (taken_seen state faults group (slot_of (start_of c.args.desk.now) (Side c.args.queue)) took.0 (view c.args.chair.now) took.2))

pub returns-clause-drained : goal.returns-clause-drained
returns-clause-drained g c =
    let state = g.P.Port.state in
    let faults = g.P.Port.faults in
    let group = g.G.Groups.group in
    let o = start_of c.args.desk.now in
    let took = c.in-Side.ensures.took in
    let own : c.in-Side.side.pmr.queue ≡ c.args.queue = took.3.says.is.queue in
    let a = c.drain_side.ensures.answered in
    record {
      taken = took.0;
      sees = took.2;
      side = c.in-Side.side;
      stood = took.3;
      result = a.result;
      after = a.after;
      drains = a.drains;
      cause = a.cause;
      is = a.is;
      passed = on_ok_both c.drain_side.result (λ low p.
          passes state faults group o c.args.queue c.args.at (mark_after a.result) (view c.args.chair.now) (view c.take-item.new.chair) (view c.drain_side.new.chair) took.0 c.requires.at.1 c.requires.above c.requires.seen low took.1
          (subst (λ z. IsPassed state faults group o z (mark_after a.result) (view c.take-item.new.chair) (view c.drain_side.new.chair)) own p)) a.low a.passed;
    }

pub returns-clause-refused : goal.returns-clause-refused
returns-clause-refused g c =
    let state = g.P.Port.state in
    let faults = g.P.Port.faults in
    let group = g.G.Groups.group in
    let o = start_of c.args.desk.now in
    let took = c.in-Side.ensures.took in
    let own : c.in-Side.side.pmr.queue ≡ c.args.queue = took.3.says.is.queue in
    IfErr-weaker c.drain_side.result _ _ (λ e p.
    refuses state faults group o c.args.queue e (view c.args.chair.now) (view c.take-item.new.chair) (view c.drain_side.new.chair) took.0 c.requires.at.1 c.requires.above took.1
    (subst (λ z. IsReported state faults group o z (report_of e) (view c.take-item.new.chair) (view c.drain_side.new.chair)) own p))
    c.drain_side.ensures.refused
