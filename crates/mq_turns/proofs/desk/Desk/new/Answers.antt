use Rattle.std.proofs.Common.{rules, ◌≡◌, ℕ, List, length, sym, subst, ◌+◌}
use Rattle.mq_turns.specs.Desk.{opening_of, slots}
use Rattle.mq_turns.specs.Opened.{AreOpenWords}
use Rattle.mq_turns.specs.declared.rule.Start.{Start}
use Rattle.mq_turns.proofs.DeskLaying.{opens}
use Rattle.mq_turns.proofs.desk.Desk.new.Goals as goal

pub vacant-requires : goal.vacant-requires
vacant-requires g c =
    let key : Start g.row.M.Denot g.row.M-Page.Denot g.row.M-Side.Denot g.row.M-Root.Denot g.row.M-Entry.Denot = record { pages = c.of.result; sides = c.of-2.result; root = c.of-3.result; base = c.base.inside.0; chairs = c.from.result } in
    let count = c.len-page_count.result + c.len-side_count.result + 1 in
    let all : count ≡ slots (opening_of key) = search rules in
    let sides : c.len-side_count.result ≡ length c.of-2.result.value.items = search rules in
    let words = subst (λ (z : ℕ × List ℕ). AreOpenWords count z.0 c.base.inside.0 z.1) (λ i. (sides i, sym c.as_slice.ensures.value i)) c.in-Ok.ensures.words in
    opens g.M.Machine.meaning (opening_of key) c.from.result c.as_slice.result.now count all words (search rules) (search rules) (search rules)
