use Rattle.std.proofs.Common.{inl, inr, sym, subst}
use Rattle.std.proofs.lemmas.Result.{err_from_is_err_and}
use Rattle.mq_recover.specs.Refusals.{RefusesQueueBy, QueueWords, QueueNewest, QueueChain, QueueRung}
use Rattle.mq_recover.specs.declared.refusal.ChainRefusal.{ChainRefusal}
use Rattle.mq_recover.proofs.chain.read_queue.Goals as goal

pub returns-in_err-check_words-clause-refused : goal.returns-in_err-check_words-clause-refused
returns-in_err-check_words-clause-refused g c =
    let s = g.P.Port.state c.args.port.now in
    let p = err_from_is_err_and c.from_residual.result c.from_residual.ensures.1 in
    let r = c.in_err-check_words.ensures.refused in
    rw (p.1, p.2) (inr (subst (λ (e : ChainRefusal). RefusesQueueBy g.D.Descriptors.accepts g.D.Descriptors.refuses c.args.geometry s c.args.queue c.args.base e) (sym r.0) (QueueWords r.1)))

pub returns-in_err-newest-clause-refused : goal.returns-in_err-newest-clause-refused
returns-in_err-newest-clause-refused g c =
    let p = err_from_is_err_and c.from_residual-in_err-newest.result c.from_residual-in_err-newest.ensures.1 in
    rw (p.1, p.2) (inr (QueueNewest c.in_ok-check_words.ensures.ok c.in_err-newest.ensures.refused))

pub returns-in_err-chain-clause-refused : goal.returns-in_err-chain-clause-refused
returns-in_err-chain-clause-refused g c =
    let p = err_from_is_err_and c.from_residual-in_err-chain.result c.from_residual-in_err-chain.ensures.1 in
    let newest = c.in_ok-newest.newest in
    rw (p.1, p.2) (elim c.in_err-chain.ensures.refused [
      | inl x ↦ inl x
      | inr x ↦ inr (QueueChain newest.number newest.lba c.in_ok-check_words.ensures.ok c.in_ok-newest.ensures.ok x)
    ])

pub returns-in_err-greatest-clause-refused : goal.returns-in_err-greatest-clause-refused
returns-in_err-greatest-clause-refused g c =
    let p = err_from_is_err_and c.from_residual-in_err-greatest.result c.from_residual-in_err-greatest.ensures.1 in
    let newest = c.in_ok-newest.newest in
    rw (p.1, p.2) (inr (QueueRung newest.number newest.lba c.in_ok-chain.chain c.in_ok-check_words.ensures.ok c.in_ok-newest.ensures.ok c.in_ok-chain.ensures.ok c.in_err-greatest.ensures.refused))
