use Rattle.std.proofs.Common.{rules, arith, ap, ◌≡◌, ◌∙◌, [], vec_len}
use Rattle.mq_turns.specs.Desk.{opening_of}
use Rattle.mq_turns.specs.declared.turn.Turn.TheVariants.{Page}
use Rattle.mq_turns.specs.declared.turn.Item.TheVariants as item
use Rattle.mq_turns.proofs.DeskLaying.{laid_holds, laid, laid_stands, page_laid, last_pop, front_pop}
use Rattle.mq_turns.proofs.open.lay_pages.Goals as goal

pub give_back-requires-clause-holds : goal.give_back-requires-clause-holds
give_back-requires-clause-holds g c =
    let i = c.loop-page.invariant in
    (ap (λ m. m.0.hand) i.holds, ap (λ m. m.1) i.holds, (let parts = ap (λ m. m.0.parts) i.holds in let live = c.requires.some in omega arith), laid_holds _ (opening_of c.args.top.now.key) _ _ _ c.len.result c.loop-page.place.me.0 (ap (λ m. m.0) i.holds) (search rules))

pub give_back-requires-clause-stands : goal.give_back-requires-clause-stands
give_back-requires-clause-stands g c =
    let i = c.loop-page.invariant in
    let at = last_pop c.args.top.now.key.pages.value.items c.loop-page.pages.items c.pop.new.self.items c.in-Some.page c.len.result c.in-Some.ensures.items (search rules) i.front in
    let lt : c.len.result ≡ vec_len c.pop.new.self = search rules in
    let longer : vec_len c.loop-page.pages ≡ Rattle.std.proofs.Common.suc c.len.result = search rules in
    let short = i.short in
    let s = page_laid g.M.Machine.meaning (opening_of c.args.top.now.key) c.len.result c.in-Some.page (omega arith) at c.requires.starts in
    laid_stands g.M.Machine.meaning (opening_of c.args.top.now.key) c.obeys.ensures _ _ _ c.len.result (Page c.len.result) c.loop-page.place.me.0 (item.Page c.in-Some.page) (ap (λ m. m.0) i.holds) longer s.0 s.1

pub loop-page-preserved : goal.loop-page-preserved
loop-page-preserved g c =
    let i = c.loop-page.invariant in
    let short = i.short in
    let longer : vec_len c.loop-page.pages ≡ Rattle.std.proofs.Common.suc c.len.result = search rules in
    let is : c.len.result ≡ vec_len c.pop.new.self = search rules in
    let l = laid g.row.M-Entry.Denot (opening_of c.args.top.now.key) c.args.top.now.key.chairs 0 _ c.len.result c.loop-page.place.me.0 (ap (λ m. m.0) i.holds) longer in
    record {
      table = search rules;
      holds = c.give_back.ensures.gave ∙ (ap (λ v. (v, [])) l ∙ ap (λ n. (Rattle.mq_turns.specs.Desk.laying (opening_of c.args.top.now.key) c.args.top.now.key.chairs 0 n, [])) is);
      short = omega arith;
      front = front_pop c.args.top.now.key.pages.value.items c.loop-page.pages.items c.pop.new.self.items c.in-Some.page c.in-Some.ensures.items i.front;
    }
