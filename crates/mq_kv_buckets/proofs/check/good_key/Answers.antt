use Rattle.std.proofs.Common.{◌≡◌, true, ap, sym, ◌∙◌, arith}
use Rattle.std.specs.Ordering.{is_lt}
use Rattle.mq_kv_buckets.proofs.BucketsNext.{bad-key-along, bad-lengths-along, next-along}
use Rattle.mq_kv_buckets.proofs.KeysOrder.{below-less}
use Rattle.mq_kv_buckets.proofs.check.good_key.Goals as goal

pub returns-then-not-are_good : goal.returns-then-not-are_good
returns-then-not-are_good c =
    bad-lengths-along c.args.last.now c.args.bytes.now c.args.at c.args.lengths.key c.args.lengths.value c.requires.key c.requires.value
    (λ fine. let yes : c.are_good.result ≡ true = c.are_good.ensures.1 fine in absurd (cc))

pub key_at-key-requires : goal.key_at-key-requires
key_at-key-requires c = let fine = c.are_good.ensures.0 c.if-not-are_good.false in let fits = fine.2 in record { at = c.requires.at; inside = omega arith }

pub returns-in-Less : goal.returns-in-Less
returns-in-Less c =
    let fine = c.are_good.ensures.0 c.if-not-are_good.false in
    next-along c.args.last.now c.args.bytes.now c.key_at-key.result.now c.args.at c.args.lengths.key c.args.lengths.value c.requires.key c.requires.value c.key_at-key.ensures
    (λ k. let f = c.type_inv.bytes k in omega arith) c.requires.some fine.0 fine.1 fine.2 (ap is_lt (sym c.in-Less.ensures))

pub returns-in_default : goal.returns-in_default
returns-in_default c =
    bad-key-along c.args.last.now c.args.bytes.now c.key_at-key.result.now c.args.at c.args.lengths.key c.requires.key c.key_at-key.ensures
    (λ low. c.in_default.not-Less (c.cmp.ensures ∙ below-less c.args.last.now c.key_at-key.result.now low))
