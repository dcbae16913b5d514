use Rattle.std.proofs.Common.{Some, sym, ◌∙◌, ap}
use Rattle.mq_recover.proofs.DrivesPortRows.{IsOfBlock, of-block, row-home, row-gives, row-cause}
use Rattle.mq_recover.proofs.homes.write_one.Goals as goal

pub write_through-requires-in-Some-clause-home : goal.write_through-requires-in-Some-clause-home
write_through-requires-in-Some-clause-home g c =
    let geometry = c.args.geometry in
    let state = g.P.Port.state in
    let xs = c.args.ports.now.queues.items in
    let root = c.args.ports.now.root in
    let q = c.q.inside.0 in
    let x = c.index_mut.result.now in
    let of : IsOfBlock geometry xs q c.args.b x =
    of-block geometry state xs q c.args.b x root c.requires.ports c.requires.below (sym c.zone_of.ensures ∙ c.in-Some.is ∙ ap (λ n. Some n) (sym c.q.view_is)) c.index_mut.ensures.value in
    row-home geometry state xs q c.args.b x root c.requires.ports of

pub returns-in-Some-clause-gives : goal.returns-in-Some-clause-gives
returns-in-Some-clause-gives g c =
    let geometry = c.args.geometry in
    let state = g.P.Port.state in
    let xs = c.args.ports.now.queues.items in
    let root = c.args.ports.now.root in
    let q = c.q.inside.0 in
    let x = c.index_mut.result.now in
    let of : IsOfBlock geometry xs q c.args.b x =
    of-block geometry state xs q c.args.b x root c.requires.ports c.requires.below (sym c.zone_of.ensures ∙ c.in-Some.is ∙ ap (λ n. Some n) (sym c.q.view_is)) c.index_mut.ensures.value in
    row-gives geometry state xs q c.args.b c.args.block x c.write_through-in-Some.new.port root c.write_through-in-Some.result of c.write_through-in-Some.ensures.gives

pub returns-in-Some-clause-cause : goal.returns-in-Some-clause-cause
returns-in-Some-clause-cause g c =
    let geometry = c.args.geometry in
    let state = g.P.Port.state in
    let xs = c.args.ports.now.queues.items in
    let root = c.args.ports.now.root in
    let q = c.q.inside.0 in
    let x = c.index_mut.result.now in
    let of : IsOfBlock geometry xs q c.args.b x =
    of-block geometry state xs q c.args.b x root c.requires.ports c.requires.below (sym c.zone_of.ensures ∙ c.in-Some.is ∙ ap (λ n. Some n) (sym c.q.view_is)) c.index_mut.ensures.value in
    row-cause geometry state g.P.Port.faults xs q c.args.b c.args.block x c.write_through-in-Some.new.port root c.write_through-in-Some.result of
    c.write_through-in-Some.ensures.gives c.write_through-in-Some.ensures.cause
