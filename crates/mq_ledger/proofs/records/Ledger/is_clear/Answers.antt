use Rattle.std.proofs.Common.{◌<◌, ◌≤◌, length, sym, ◌∙◌, arith}
use Rattle.std.proofs.lemmas.Bool.{eq-eqb, le-leb, leb-true}
use Rattle.mq_ledger.specs.Items.{below}
use Rattle.mq_ledger.specs.Records.{own, from_of}
use Rattle.mq_ledger.proofs.RecordsLookups.{clear_all, clear_at}
use Rattle.mq_ledger.proofs.records.Ledger.is_clear.Goals as goal

pub returns-then-at-len : goal.returns-then-at-len
returns-then-at-len c =
    let s = c.args.self.now in
    let a = c.ended-at.ensures.is in
    let b = c.len.ensures.is in
    let e = c.if-at-len.true in
    let full : length (own s c.args.queue) ≤ length (below (from_of s c.args.queue) c.args.head (own s c.args.queue)) = omega arith in
    (λ t. clear_all s c.args.queue c.args.head c.args.mark full, λ clear. eq-eqb _ _ e)

pub returns-else-at-len : goal.returns-else-at-len
returns-else-at-len c =
    let s = c.args.self.now in
    let a = c.ended-at.ensures.is in
    let b = c.len.ensures.is in
    let e = c.if-at-len.false in
    let bound = c.ended-at.ensures.bound in
    let few : length (below (from_of s c.args.queue) c.args.head (own s c.args.queue)) < length (own s c.args.queue) = omega arith in
    let k = clear_at s c.args.queue c.args.head c.args.mark c.number_at.result c.ended-at.ensures.numbers few (λ t txs at size. c.number_at.ensures t txs at (size ∙ sym a)) in
    (λ t. k.0 (leb-true _ _ t), λ clear. le-leb _ _ (k.1 clear))
