use Rattle.std.proofs.Common.{arith}
use Rattle.mq_tie.proofs.Stored.{entry_place-inside, entry_place-is, entry_place-place}
use Rattle.mq_tie.proofs.ended.Ended.drawn.Goals as goal

pub index-requires : goal.index-requires
index-requires g c =
    let s = c.args.self.now in
    let all = s.found in
    let low = entry_place-inside s.sides.items s.order.items c.args.at s.found (omega (arith, c.requires)) c.index-entry_place.result.now c.index-entry_place.ensures in
    omega (arith, s.sides.ok.0)

pub bounds-stored-entry_place : goal.bounds-stored-entry_place
bounds-stored-entry_place g c =
    let s = c.args.self.now in
    let all = s.found in
    entry_place-place s.sides.items s.order.items c.args.at s.found (omega (arith, c.requires)) c.index-entry_place.result.now c.index-entry_place.ensures c.index.result.now c.index.ensures c.stored.result.now c.stored.ensures

pub offset_bounds-stored-entry_place : goal.offset_bounds-stored-entry_place
offset_bounds-stored-entry_place g c =
    let s = c.args.self.now in
    let all = s.found in
    let low = entry_place-place s.sides.items s.order.items c.args.at s.found (omega (arith, c.requires)) c.index-entry_place.result.now c.index-entry_place.ensures c.index.result.now c.index.ensures c.stored.result.now c.stored.ensures in
    omega arith

pub returns : goal.returns
returns g c =
    let s = c.args.self.now in
    let all = s.found in
    entry_place-is s.sides.items s.order.items c.args.at s.found (omega (arith, c.requires)) c.index-entry_place.result.now c.index-entry_place.ensures c.index.result.now c.index.ensures c.stored.result.now c.stored.ensures c.index-stored-entry_place.result c.index-stored-entry_place.is
