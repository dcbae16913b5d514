use Rattle.std.proofs.Common.{rules, ◌≡◌, List, length, ap, sym, subst, arith}
use Rattle.std.specs.Prelude.{false}
use Rattle.std.proofs.lemmas.List.{nil_from_length}
use Rattle.mq_turns.specs.AtDesk.{start_of, view}
use Rattle.mq_sessions.specs.Attempts.{Acts}
use Rattle.mq_sessions.specs.Calls.{call_of}
use Rattle.mq_sessions.proofs.AttemptsComposing.{large-of, only-read, waits-read, written-few}
use Rattle.mq_sessions.proofs.attempting.finish.Goals as goal

pub returns-then-is_empty-2-clause-acts : goal.returns-then-is_empty-2-clause-acts
returns-then-is_empty-2-clause-acts g c =
    let v = view c.args.session.now.chair in
    let w = view c.read_undrawn.new.session.chair in
    let no_writes : length (g.G.Executor.calls.writes c.args.done) ≡ 0 = search rules in
    let no_frees : length (g.G.Executor.calls.frees c.args.done) ≡ 0 = search rules in
    let writes = nil_from_length (g.G.Executor.calls.writes c.args.done) no_writes in
    let frees = nil_from_length (g.G.Executor.calls.frees c.args.done) no_frees in
    let read = only-read g.G.Groups.group g.G.Executor.calls (call_of c.args.asked.now) c.args.done c.in_ok-at.at v w c.entries_tell.ensures c.in_ok-at.ensures.read writes frees in
    subst (λ (rs : List _). Acts g.G.Executor.calls c.args.geometry (call_of c.args.asked.now) c.in_ok-at.at false rs v w) (sym c.parts-replies.ensures.replies) read

pub returns-then-is_empty-2-clause-waits : goal.returns-then-is_empty-2-clause-waits
returns-then-is_empty-2-clause-waits g c = waits-read g.G.Groups.group g.G.Executor.calls c.args.asked.now.queue c.in_ok-at.at c.in_ok-at.at (call_of c.args.asked.now) c.args.done (view c.args.session.now.chair) (view c.read_undrawn.new.session.chair) c.in_ok-at.ensures.read

pub overflow_cast-result : goal.overflow_cast-result
overflow_cast-result g c =
    let few = written-few g.P.Port.state g.P.Port.faults g.G.Groups.group g.G.Executor.calls c.args.geometry (start_of c.args.desk.now) c.args.asked.now.queue c.args.asked.now.requests.now c.args.session.now.held.cells (view c.args.session.now.chair) c.args.done c.done_groups_are_on_maps.ensures c.done_groups_rise.ensures c.requires.at.1 c.requires.geometry c.requires.holds.pages.pages c.requires.holds.seen c.requires.holds.done_on in
    let high = c.args.geometry.homes_high in
    let same = ap length c.writes-count.ensures in
    omega arith

pub returns-then-count-limit-clause-missed : goal.returns-then-count-limit-clause-missed
returns-then-count-limit-clause-missed g c =
    let v = view c.args.session.now.chair in
    let w = view c.read_undrawn-then-count-limit.new.session.chair in
    large-of g.G.Groups.group g.G.Executor.calls c.args.geometry (call_of c.args.asked.now) c.args.done c.in_ok-read_undrawn.field-0 _ c.write_limit-limit.result v w c.entries_tell.ensures c.in_ok-read_undrawn.ensures.read c.write_limit-limit.ensures (ap length c.writes-count.ensures) c.if-count-limit.true

pub read_undrawn-requires-clause-at : goal.read_undrawn-requires-clause-at
read_undrawn-requires-clause-at g c = c.requires.at

pub read_undrawn-requires-clause-geometry : goal.read_undrawn-requires-clause-geometry
read_undrawn-requires-clause-geometry g c = c.requires.geometry

pub read_undrawn-requires-clause-holds : goal.read_undrawn-requires-clause-holds
read_undrawn-requires-clause-holds g c = c.requires.holds

pub read_undrawn-requires-then-count-limit-clause-at : goal.read_undrawn-requires-then-count-limit-clause-at
read_undrawn-requires-then-count-limit-clause-at g c = c.requires.at

pub read_undrawn-requires-then-count-limit-clause-geometry : goal.read_undrawn-requires-then-count-limit-clause-geometry
read_undrawn-requires-then-count-limit-clause-geometry g c = c.requires.geometry

pub read_undrawn-requires-then-count-limit-clause-holds : goal.read_undrawn-requires-then-count-limit-clause-holds
read_undrawn-requires-then-count-limit-clause-holds g c = c.requires.holds

pub commit-requires-clause-at : goal.commit-requires-clause-at
commit-requires-clause-at g c = c.requires.at

pub commit-requires-clause-geometry : goal.commit-requires-clause-geometry
commit-requires-clause-geometry g c = c.requires.geometry

pub commit-requires-clause-pages : goal.commit-requires-clause-pages
commit-requires-clause-pages g c = c.requires.pages

pub commit-requires-clause-sides : goal.commit-requires-clause-sides
commit-requires-clause-sides g c = c.requires.sides

pub commit-requires-clause-asks : goal.commit-requires-clause-asks
commit-requires-clause-asks g c = c.requires.holds.asks

pub commit-requires-clause-holds : goal.commit-requires-clause-holds
commit-requires-clause-holds g c = c.requires.holds.pages

pub commit-requires-clause-seen : goal.commit-requires-clause-seen
commit-requires-clause-seen g c = c.requires.holds.seen

pub commit-requires-clause-done : goal.commit-requires-clause-done
commit-requires-clause-done g c = c.requires.holds.done_on

pub returns-then-is_empty-2-clause-at : goal.returns-then-is_empty-2-clause-at
returns-then-is_empty-2-clause-at g c = c.in_ok-at.ensures.at

pub returns-then-is_empty-2-clause-rests : goal.returns-then-is_empty-2-clause-rests
returns-then-is_empty-2-clause-rests g c = c.in_ok-at.ensures.rests

pub returns-then-is_empty-2-clause-queue : goal.returns-then-is_empty-2-clause-queue
returns-then-is_empty-2-clause-queue g c = c.in_ok-at.ensures.queue

pub returns-then-is_empty-2-clause-calls : goal.returns-then-is_empty-2-clause-calls
returns-then-is_empty-2-clause-calls g c = c.in_ok-at.ensures.calls

pub returns-then-is_empty-2-clause-goes : goal.returns-then-is_empty-2-clause-goes
returns-then-is_empty-2-clause-goes g c = c.in_ok-at.ensures.goes

pub returns-then-count-limit-clause-at : goal.returns-then-count-limit-clause-at
returns-then-count-limit-clause-at g c = c.in_ok-read_undrawn.ensures.at

pub returns-then-count-limit-clause-rests : goal.returns-then-count-limit-clause-rests
returns-then-count-limit-clause-rests g c = c.in_ok-read_undrawn.ensures.rests

pub returns-then-count-limit-clause-queue : goal.returns-then-count-limit-clause-queue
returns-then-count-limit-clause-queue g c = c.in_ok-read_undrawn.ensures.queue

pub returns-then-count-limit-clause-calls : goal.returns-then-count-limit-clause-calls
returns-then-count-limit-clause-calls g c = c.in_ok-read_undrawn.ensures.calls

pub returns-then-count-limit-clause-goes : goal.returns-then-count-limit-clause-goes
returns-then-count-limit-clause-goes g c = c.in_ok-read_undrawn.ensures.goes

pub returns-clause-at : goal.returns-clause-at
returns-clause-at g c = c.in_ok-at-2.ensures.at

pub returns-clause-goes : goal.returns-clause-goes
returns-clause-goes g c = c.in_ok-at-2.ensures.goes

pub returns-clause-acts : goal.returns-clause-acts
returns-clause-acts g c = c.in_ok-at-2.ensures.committed.0

pub returns-clause-waits : goal.returns-clause-waits
returns-clause-waits g c = c.in_ok-at-2.ensures.committed.2

pub returns-clause-rests : goal.returns-clause-rests
returns-clause-rests g c =
    let drew = c.in_ok-at-2.ensures in
    record { parts = drew.seat.parts; opening = drew.seat.opening; session = drew.seat.session; held = drew.idle; none = drew.cells; room = drew.room }
