use Rattle.std.proofs.Common.{rules, arith, ap, ◌≡◌, ◌∙◌, ◌+◌, suc, [], vec_len}
use Rattle.mq_turns.specs.Desk.{opening_of, laying}
use Rattle.mq_turns.specs.declared.turn.Turn.TheVariants.{Side}
use Rattle.mq_turns.specs.declared.turn.Item.TheVariants as item
use Rattle.mq_turns.proofs.DeskLaying.{laid_holds, laid, laid_stands, side_laid, last_pop, front_pop}
use Rattle.mq_turns.proofs.open.lay_sides.Goals as goal

pub give_back-requires-clause-holds : goal.give_back-requires-clause-holds
give_back-requires-clause-holds g c =
    let i = c.loop-side.invariant in
    let longer : vec_len c.loop-side.sides ≡ suc c.len.result = search rules in
    (ap (λ m. m.0.hand) i.holds, ap (λ m. m.1) i.holds, (let parts = ap (λ m. m.0.parts) i.holds in let live = c.requires.some in omega arith), laid_holds _ (opening_of c.args.top.now.key) _ _ _ (c.args.pages + c.len.result) c.loop-side.place.me.0 (ap (λ m. m.0) i.holds) (omega arith))

pub give_back-requires-clause-stands : goal.give_back-requires-clause-stands
give_back-requires-clause-stands g c =
    let i = c.loop-side.invariant in
    let at = last_pop c.args.top.now.key.sides.value.items c.loop-side.sides.items c.pop.new.self.items c.in-Some.side c.len.result c.in-Some.ensures.items (search rules) i.front in
    let s = side_laid g.M.Machine.meaning (opening_of c.args.top.now.key) (c.args.pages + c.len.result) c.args.pages c.len.result c.in-Some.side c.requires.turns.0 (omega arith) at c.requires.starts in
    laid_stands g.M.Machine.meaning (opening_of c.args.top.now.key) c.obeys.ensures _ _ _ (c.args.pages + c.len.result) (Side c.len.result) c.loop-side.place.me.0 (item.Side c.in-Some.side) (ap (λ m. m.0) i.holds) (let longer : vec_len c.loop-side.sides ≡ suc c.len.result = search rules in omega arith) s.0 s.1

pub loop-side-preserved : goal.loop-side-preserved
loop-side-preserved g c =
    let i = c.loop-side.invariant in
    let short = i.short in
    let longer : vec_len c.loop-side.sides ≡ suc c.len.result = search rules in
    let is : c.len.result ≡ vec_len c.pop.new.self = search rules in
    let l = laid g.row.M-Entry.Denot (opening_of c.args.top.now.key) c.args.top.now.key.chairs 0 _ (c.args.pages + c.len.result) c.loop-side.place.me.0 (ap (λ m. m.0) i.holds) (omega arith) in
    record {
      table = search rules;
      holds = c.give_back.ensures.gave ∙ (ap (λ v. (v, [])) l ∙ ap (λ n. (laying (opening_of c.args.top.now.key) c.args.top.now.key.chairs 0 (c.args.pages + n), [])) is);
      short = omega arith;
      front = front_pop c.args.top.now.key.sides.value.items c.loop-side.sides.items c.pop.new.self.items c.in-Some.side c.in-Some.ensures.items i.front;
    }
