use Rattle.std.proofs.Common.{◌+◌, ◌∙◌, sym, subst}
use Rattle.std.proofs.lemmas.List.{get_or_read}
use Rattle.std.specs.Prelude.{None}
use Rattle.mq_notices.specs.Merging.{IsNext}
use Rattle.mq_notices.specs.Notices.{notice}
use Rattle.mq_notices.specs.declared.notice.Notice.{Notice}
use Rattle.mq_notices.proofs.Interleaving.{head-there, next-left, next-right, right-there}
use Rattle.mq_notices.proofs.merging.next.Goals as goal

pub returns-then-has : goal.returns-then-has
returns-then-has c =
    let mine = c.args.mine.now in
    let x = c.index-mine-a.result in
    let is = sym c.has.ensures ∙ c.if-has.true in
    let next = next-left mine c.args.theirs.now c.args.a.now c.args.b.now c.args.index x c.requires.within.1 is in
    let read = get_or_read mine c.args.a.now x (head-there mine c.args.a.now c.args.index is) c.index-mine-a.is x in
    subst (λ (y : Notice). IsNext mine c.args.theirs.now c.args.a.now c.args.b.now (c.args.a.now + 1) c.args.b.now c.args.index y) (sym read) next

pub bounds-theirs-b : goal.bounds-theirs-b
bounds-theirs-b c =
    let some = c.requires.some in
    right-there c.args.mine.now c.args.theirs.now c.args.a.now c.args.b.now c.args.index (notice 0 None) some.0 some.1 (sym c.has.ensures ∙ c.if-has.false) some.2

pub returns : goal.returns
returns c =
    let theirs = c.args.theirs.now in
    let x = c.index-theirs-b.result in
    let some = c.requires.some in
    let other = sym c.has.ensures ∙ c.if-has.false in
    let there = right-there c.args.mine.now theirs c.args.a.now c.args.b.now c.args.index x some.0 some.1 other some.2 in
    let next = next-right c.args.mine.now theirs c.args.a.now c.args.b.now c.args.index x c.requires.within.0 there other in
    let read = get_or_read theirs c.args.b.now x there c.index-theirs-b.is x in
    subst (λ (y : Notice). IsNext c.args.mine.now theirs c.args.a.now c.args.b.now c.args.a.now (c.args.b.now + 1) c.args.index y) (sym read) next
