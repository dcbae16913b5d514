use Rattle.std.proofs.Common.{◌≡◌, ◌<◌, ◌≤◌, length, sym, ap, subst, arith, rules}
use Rattle.mq_blocks.specs.Drive.{PortState}
use Rattle.mq_command_blocks.proofs.CommitsTextSteps.{Lines, none_yet, finished, stopped_between, places_many, IsStopped}
use Rattle.mq_command_blocks.proofs.commit.commit_through.Goals as goal

pub returns-then-is_empty-clause-ok : goal.returns-then-is_empty-clause-ok
returns-then-is_empty-clause-ok g c =
    let lines : Lines = c.args.text.now in
    let s : PortState = g.P.Port.state c.args.port in
    let q = c.requires in
    let none : length lines ≡ 0 = search rules in
    λ i r image base. finished c.args.geometry s s lines 0 0 0 (none_yet c.args.geometry s lines q.clean q.good q.below) q.clean.one q.clean.low (omega (arith, none)) (sym none) i r image base

pub returns-in-Err-clause-cut : goal.returns-in-Err-clause-cut
returns-in-Err-clause-cut g c =
    let lines : Lines = c.args.text.now in
    let s : PortState = g.P.Port.state c.args.port in
    let new : PortState = g.P.Port.state c.in-Err.port in
    let q = c.requires in
    let some : 0 < length lines = search rules in
    let back : new ≡ s = ap g.P.Port.state c.in-Err.ensures.err in
    let short : length lines ≤ 1024 = let places = places_many lines in let few = q.good.1 in omega (arith, places, few) in
    let stopped : IsStopped c.args.geometry s s lines =
    stopped_between c.args.geometry s s lines 0 0 0 (none_yet c.args.geometry s lines q.clean q.good q.below) q.clean.one q.clean.low short some in
    let at : IsStopped c.args.geometry s new lines = subst (λ (u : PortState). IsStopped c.args.geometry s u lines) (sym back) stopped in
    (at.count, at.stopped, at.shows)
