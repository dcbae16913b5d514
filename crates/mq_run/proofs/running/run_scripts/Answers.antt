use Rattle.std.proofs.Common.{◌≡◌, length, map, drop, sym, ap, subst, ◌∙◌, arith}
use Rattle.std.proofs.lemmas.List.{take_at}
use Rattle.std.specs.List.{All}
use Rattle.mq_calls.specs.Helpers.{IsAtEase}
use Rattle.mq_calls.specs.Sessions.{IsReady}
use Rattle.mq_notices.specs.Ends.{announced, served_by_helper, served_by_session}
use Rattle.mq_notices.specs.Notices.{Merged}
use Rattle.mq_turns.specs.AtDesk.{AtDesk, start_of, view}
use Rattle.mq_run.specs.Pairs.{AreDone, AreOpen}
use Rattle.mq_run.specs.Playing.{IsShort}
use Rattle.mq_run.specs.Runs.{EndsSo, track}
use Rattle.mq_run.specs.Seating.{room_for, room_of}
use Rattle.mq_run.proofs.LinesGrowing.{all_got, same_at}
use Rattle.mq_run.proofs.Parts.{all_at, along}
use Rattle.mq_run.proofs.Seating.{has_room, new_is_ready}
use Rattle.mq_run.proofs.RunsTracks.{has_run}
use Rattle.mq_run.proofs.running.run_scripts.Goals as goal

pub play_all-requires-clause-desk : goal.play_all-requires-clause-desk
play_all-requires-clause-desk g c w lives i a at =
    let here = along c.deref_mut.result.now c.in-Ok.pairs.items i a c.deref_mut.ensures.value at in
    ((c.in-Ok.ensures.each i a here).0, (c.in-Ok.ensures.helpers i a here).0)

pub play_all-requires-clause-ready : goal.play_all-requires-clause-ready
play_all-requires-clause-ready g c w lives i a at =
    new_is_ready c.args.geometry c.in-Ok.files.geometry (start_of c.in-Ok.files.desk) i a.session.runner.user.queue a.session.runner.user.calls a.session.runner.user.wanted.items a.session.runner.user.held (view a.session.runner.user.chair) c.in-Ok.ensures.geometry
    (c.in-Ok.ensures.each i a (along c.deref_mut.result.now c.in-Ok.pairs.items i a c.deref_mut.ensures.value at)).1

pub play_all-requires-clause-ease : goal.play_all-requires-clause-ease
play_all-requires-clause-ease g c w lives i a at =
    let here = along c.deref_mut.result.now c.in-Ok.pairs.items i a c.deref_mut.ensures.value at in
    let idle = c.in-Ok.ensures.helpers i a here in
    let ready = new_is_ready c.args.geometry c.in-Ok.files.geometry (start_of c.in-Ok.files.desk) i a.session.runner.user.queue a.session.runner.user.calls a.session.runner.user.wanted.items a.session.runner.user.held (view a.session.runner.user.chair) c.in-Ok.ensures.geometry (c.in-Ok.ensures.each i a here).1 in
    let low = ready.0.queue in
    let own = ready.1 in
    (idle.1.ease, omega arith, idle.2)

pub play_all-requires-clause-room : goal.play_all-requires-clause-room
play_all-requires-clause-room g c w lives i a s at to = (
  has_room s.groups a.session.runner.told a.session.runner.reads a.line
      (same_at (λ p. room_of p.session.runner.told p.session.runner.reads p.line) (λ s. room_for (length s.groups)) c.in-Ok.pairs.items c.args.scripts.now i a s c.in-Ok.ensures.room
      (along c.deref_mut.result.now c.in-Ok.pairs.items i a c.deref_mut.ensures.value at) to),
  all_at (λ s. IsShort s.groups) c.args.scripts.now i s c.requires.short to,
)

pub play_all-requires-clause-open : goal.play_all-requires-clause-open
play_all-requires-clause-open g c w lives i a at =
    all_at (λ p. AreOpen p.line p.session.announcing p.helper.listening) c.in-Ok.pairs.items i a c.in-Ok.ensures.open (along c.deref_mut.result.now c.in-Ok.pairs.items i a c.deref_mut.ensures.value at)

pub end_scripts-requires-clause-sessions : goal.end_scripts-requires-clause-sessions
end_scripts-requires-clause-sessions g c =
    let new = c.play_all.new.pairs in
    let same : length new ≡ c.in-Ok.pairs.len = omega (arith, c.play_all.ensures.many, c.deref_mut.ensures.len) in
    subst (λ ps. All (λ p. AtDesk c.in-Ok.files.desk p.session.runner.user.chair × IsReady c.in-Ok.files.geometry p.session.runner.user.queue p.session.runner.user.calls p.session.runner.user.held (view p.session.runner.user.chair)) ps)
    (sym (take_at new (drop (length new) c.in-Ok.pairs.items) c.in-Ok.pairs.len same))
    (all_got (λ p. AtDesk c.in-Ok.files.desk p.session.runner.user.chair × IsReady c.in-Ok.files.geometry p.session.runner.user.queue p.session.runner.user.calls p.session.runner.user.held (view p.session.runner.user.chair)) new
    (λ i b at. ((c.play_all.ensures.desk i b at).0, (c.play_all.ensures.ready i b at).0)))

pub end_scripts-requires-clause-helpers : goal.end_scripts-requires-clause-helpers
end_scripts-requires-clause-helpers g c =
    let new = c.play_all.new.pairs in
    let same : length new ≡ c.in-Ok.pairs.len = omega (arith, c.play_all.ensures.many, c.deref_mut.ensures.len) in
    subst (λ ps. All (λ p. AtDesk c.in-Ok.files.desk p.helper.assistant.helper.chair × IsAtEase (view p.helper.assistant.helper.chair)) ps)
    (sym (take_at new (drop (length new) c.in-Ok.pairs.items) c.in-Ok.pairs.len same))
    (all_got (λ p. AtDesk c.in-Ok.files.desk p.helper.assistant.helper.chair × IsAtEase (view p.helper.assistant.helper.chair)) new
    (λ i b at. ((c.play_all.ensures.desk i b at).1, (c.play_all.ensures.ease i b at).0)))

pub end_scripts-requires-clause-done : goal.end_scripts-requires-clause-done
end_scripts-requires-clause-done g c =
    let new = c.play_all.new.pairs in
    let same : length new ≡ c.in-Ok.pairs.len = omega (arith, c.play_all.ensures.many, c.deref_mut.ensures.len) in
    subst (λ ps. All (λ p. AreDone p.line p.session.announcing p.helper.listening) ps)
    (sym (take_at new (drop (length new) c.in-Ok.pairs.items) c.in-Ok.pairs.len same))
    (all_got (λ p. AreDone p.line p.session.announcing p.helper.listening) new c.play_all.ensures.done)

pub returns-in-Ok-end_scripts-clause-run : goal.returns-in-Ok-end_scripts-clause-run
returns-in-Ok-end_scripts-clause-run g c =
    let new = c.play_all.new.pairs in
    let old = c.in-Ok.pairs.items in
    let same : length new ≡ c.in-Ok.pairs.len = omega (arith, c.play_all.ensures.many, c.deref_mut.ensures.len) in
    let many : length old ≡ length c.args.scripts.now = omega (arith, c.in-Ok.pairs.ok.0, c.in-Ok.ensures.count) in
    let whole = take_at new (drop (length new) old) c.in-Ok.pairs.len same in
    has_run g.P.Port.state g.P.Port.faults
    (record {
      told = λ p. p.session.runner.told.items;
      reads = λ p. p.session.runner.reads.items;
      look = λ p. view p.session.runner.user.chair;
      sent = λ p. announced p.session.announcing;
      mine = λ p. served_by_session p.session.announcing;
      theirs = λ p. served_by_helper p.helper.listening;
      helper = λ p. view p.helper.assistant.helper.chair;
    })
    c.args.geometry c.in-Ok.files.geometry c.args.ports c.args.standing c.args.scripts.now c.args.finish c.in-Ok-end_scripts.end (start_of c.in-Ok.files.desk) old new
    c.in-Ok.ensures.geometry c.in-Ok.ensures.desk many (c.play_all.ensures.many ∙ ap length c.deref_mut.ensures.value)
    (record {
      first = λ i a at. (c.in-Ok.ensures.each i a at).1.view_is;
      idle = λ i a at. (c.in-Ok.ensures.helpers i a at).1.view_is;
      played = λ i a b script at to here. c.play_all.ensures.played i a b script (along old c.deref_mut.result.now i a (sym c.deref_mut.ensures.value) at) to here;
      helped = λ i a b at to. c.play_all.ensures.served i a b (along old c.deref_mut.result.now i a (sym c.deref_mut.ensures.value) at) to;
      once = subst (λ ps. All (λ p. Merged (served_by_session p.session.announcing) (served_by_helper p.helper.listening) (announced p.session.announcing)) ps) whole c.in-Ok-end_scripts.ensures.once;
    })
    (subst (λ ps. map (λ v. v.items) c.in-Ok-end_scripts.end.served.items ≡ map (λ p. announced p.session.announcing) ps) whole c.in-Ok-end_scripts.ensures.served)
    (subst (λ ps. EndsSo g.P.Port.state g.P.Port.faults (start_of c.in-Ok.files.desk) (map (λ p. track p.session.runner.told.items p.session.runner.reads.items (view p.session.runner.user.chair) (announced p.session.announcing) (served_by_session p.session.announcing) (served_by_helper p.helper.listening) (view p.helper.assistant.helper.chair)) ps) c.args.finish c.in-Ok-end_scripts.end)
    whole c.in-Ok-end_scripts.ensures.ends)
