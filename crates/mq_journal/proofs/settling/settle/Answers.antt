use Rattle.std.proofs.Common.{subst}
use Rattle.std.proofs.lemmas.Result.{IfErr-weaker}
use Rattle.mq_turns.specs.AtDesk.{view, start_of}
use Rattle.mq_turns.specs.Desk.{Sees}
use Rattle.mq_journal.specs.Draining.{IsPassed, report_of}
use Rattle.mq_journal.specs.Numbers.{IsReported, Shared, machine}
use Rattle.mq_journal.specs.Settling.{ShowsDone}
use Rattle.mq_journal.proofs.DrainingRefusing.{refuses}
use Rattle.mq_journal.proofs.Settled.{ok-both, ok-on, settles, swept-by}
use Rattle.mq_journal.proofs.settling.settle.Goals as goal

pub returns-clause-settled : goal.returns-clause-settled
returns-clause-settled g c =
    let state = g.P.Port.state in
    let faults = g.P.Port.faults in
    let group = g.G.Groups.group in
    let o = start_of c.args.desk.now in
    let side = c.take_side-side.result in
    let took = c.take_side-side.ensures.took in
    let own = c.take_side-side.ensures.queue in
    let a = c.settle_side.ensures.settled in
    let w = view c.take_side-side.new.chair in
    let new = view c.settle_side.new.chair in
    record {
      taken = took.known;
      sees = took.sees;
      side = side;
      stood = took.side;
      after = a.after;
      drains = a.drains;
      cause = a.cause;
      settles = ok-both c.settle_side.result (λ n p d.
          settles state faults group o c.args.queue n a.after (view c.args.chair.now) w new took.known c.requires.at.1 c.requires.above took.is
          (subst (λ z. IsPassed state faults group o z 18446744073709551615 w new) own p)
          (λ K sees. subst (λ z. ShowsDone state faults group z n a.after K) own (d K sees))) a.passed a.done;
    }

pub returns-clause-swept : goal.returns-clause-swept
returns-clause-swept g c =
    let state = g.P.Port.state in
    let faults = g.P.Port.faults in
    let group = g.G.Groups.group in
    let o = start_of c.args.desk.now in
    let q = c.args.queue in
    let took = c.take_side-side.ensures.took in
    let own = c.take_side-side.ensures.queue in
    let a = c.settle_side.ensures.settled in
    let v = view c.args.chair.now in
    let w = view c.take_side-side.new.chair in
    let new = view c.settle_side.new.chair in
    ok-on c.settle_side.result (λ n s. swept-by state faults group q n a.after v new s)
    (ok-both c.settle_side.result (λ n p d.
    settles state faults group o q n a.after v w new took.known c.requires.at.1 c.requires.above took.is
    (subst (λ z. IsPassed state faults group o z 18446744073709551615 w new) own p)
    (λ K sees. subst (λ z. ShowsDone state faults group z n a.after K) own (d K sees))) a.passed a.done)

pub returns-clause-refused : goal.returns-clause-refused
returns-clause-refused g c =
    let state = g.P.Port.state in
    let faults = g.P.Port.faults in
    let group = g.G.Groups.group in
    let o = start_of c.args.desk.now in
    let took = c.take_side-side.ensures.took in
    let own = c.take_side-side.ensures.queue in
    let w = view c.take_side-side.new.chair in
    let new = view c.settle_side.new.chair in
    IfErr-weaker c.settle_side.result _ _ (λ e p.
    refuses state faults group o c.args.queue e (view c.args.chair.now) w new took.known c.requires.at.1 c.requires.above took.is
    (subst (λ z. IsReported state faults group o z (report_of e) w new) own p))
    c.settle_side.ensures.refused
