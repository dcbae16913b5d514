use Rattle.std.proofs.Common.{rules, arith, ap, ◌≡◌, ◌∙◌, ◌+◌, [], vec_len, length}
use Rattle.mq_turns.specs.Desk.{opening_of, laying, slots}
use Rattle.mq_turns.specs.declared.turn.Turn.TheVariants.{Root}
use Rattle.mq_turns.specs.declared.turn.Item.TheVariants as item
use Rattle.mq_turns.proofs.DeskLaying.{laid_holds, laid, laid_stands, root_laid}
use Rattle.mq_turns.proofs.open.lay_all.Goals as goal

pub give_back-requires-clause-holds : goal.give_back-requires-clause-holds
give_back-requires-clause-holds g c =
    let i = c.requires.holds in
    let p : c.len-count.result ≡ length c.args.top.now.key.pages.value.items = search rules in
    let q : c.len.result ≡ length c.args.top.now.key.sides.value.items = search rules in
    (ap (λ m. m.0.hand) i, ap (λ m. m.1) i, (let parts = ap (λ m. m.0.parts) i in let live = c.requires.some in omega arith), laid_holds _ (opening_of c.args.top.now.key) _ _ (slots (opening_of c.args.top.now.key)) (c.len-count.result + c.len.result) c.args.place.now.me.0 (ap (λ m. m.0) i) (omega arith))

pub give_back-requires-clause-stands : goal.give_back-requires-clause-stands
give_back-requires-clause-stands g c =
    let i = c.requires.holds in
    let p : c.len-count.result ≡ length c.args.top.now.key.pages.value.items = search rules in
    let q : c.len.result ≡ length c.args.top.now.key.sides.value.items = search rules in
    let s = root_laid g.M.Machine.meaning (opening_of c.args.top.now.key) (c.len-count.result + c.len.result) c.args.root (omega arith) c.requires.turns.2 c.requires.starts in
    laid_stands g.M.Machine.meaning (opening_of c.args.top.now.key) c.obeys.ensures _ _ (slots (opening_of c.args.top.now.key)) (c.len-count.result + c.len.result) Root c.args.place.now.me.0 (item.Root c.args.root) (ap (λ m. m.0) i) (omega arith) s.0 s.1

pub lay_sides-requires-clause-holds : goal.lay_sides-requires-clause-holds
lay_sides-requires-clause-holds g c =
    let i = c.requires.holds in
    let p : c.len-count.result ≡ length c.args.top.now.key.pages.value.items = search rules in
    let q : c.len.result ≡ length c.args.top.now.key.sides.value.items = search rules in
    let is : c.len.result ≡ vec_len c.args.sides = search rules in
    let l = laid g.row.M-Entry.Denot (opening_of c.args.top.now.key) c.args.top.now.key.chairs 0 (slots (opening_of c.args.top.now.key)) (c.len-count.result + c.len.result) c.args.place.now.me.0 (ap (λ m. m.0) i) (omega arith) in
    c.give_back.ensures.gave ∙ (ap (λ v. (v, [])) l ∙ ap (λ n. (laying (opening_of c.args.top.now.key) c.args.top.now.key.chairs 0 (c.len-count.result + n), [])) is)
