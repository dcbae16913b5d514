use Rattle.std.proofs.Common.{◌≡◌, length, arith}
use Rattle.mq_kv_run.proofs.Opened.{only-one}
use Rattle.mq_kv_run.proofs.storing.open_store.Goals as goal

pub returns-in-Some-clause-session : goal.returns-in-Some-clause-session
returns-in-Some-clause-session g c =
    let ok = c.in-Ok.sessions.ok in
    let count = c.in-Ok.ensures.count in
    let one : length c.in-Ok.sessions.items ≡ 1 = omega (arith, ok, count) in
    c.in-Ok.ensures.each 0 c.in-Some.session (only-one c.in-Ok.sessions.items c.pop.new.self.items c.in-Some.session c.in-Some.ensures.items one)
