use Rattle.std.proofs.Common.{rules, ◌≡◌, length, vec_len, refl}
use Rattle.std.proofs.lemmas.Result.{err_from_is_err_and}
use Rattle.mq_recover.proofs.Merges.{ends-refused, none-left, popped-merging}
use Rattle.mq_recover.proofs.merge.take_oldest.Goals as goal

pub returns-in_err-queue-clause-twice : goal.returns-in_err-queue-clause-twice
returns-in_err-queue-clause-twice c homes base all taken merging =
    let p = err_from_is_err_and c.from_residual.result c.from_residual.ensures.1 in
    rw (p.1, p.2) (ends-refused c.args.chains.now.items c.deref.result.now c.in_err-queue.field-0.0 c.in_err-queue.ensures.twice c.deref.ensures.value homes base all taken merging)

pub returns-clause-ok : goal.returns-clause-ok
returns-clause-ok c homes base all taken merging =
    let len : vec_len c.behind-chains.inside.transactions ≡ length c.behind-chains.inside.transactions.items = search rules in
    popped-merging c.args.chains.now.items c.deref.result.now _ c.in-Some.queue c.queue.inside.0 (vec_len c.behind-chains.inside.transactions) _ c.in_ok-queue.field-0 c.index_mut.result.now c.behind-chains.inside.transactions.items c.pop.new.self.items c.pop.result
    c.in_ok-queue.ensures.oldest c.deref.ensures.value c.in-Some.is c.queue.view_is c.index_mut.ensures.value c.behind-chains.view_is c.pop.ensures.items len c.pop.ensures.cases refl homes base all taken merging
