use Rattle.std.proofs.Common.{rules, ◌≡◌, ◌<◌, max, ◌∙◌}
use Rattle.mq_journal.proofs.RaisedAtRoot.{raised_after, stands_after}
use Rattle.mq_journal.proofs.root.store.Goals as goal

pub returns-clause-stands : goal.returns-clause-stands
returns-clause-stands g c =
    let p = g.P.Port.state c.args.root.now.port in
    let m : c.max-2.result ≡ max c.args.base p.stored_base = c.max-2.ensures ∙ (λ i. max (c.base.view_is i) ((c.max.view_is ∙ c.stored.ensures) i)) in
    stands_after p (g.P.Port.state c.raise_base.new.self.port) c.args.base c.max-2.result c.raise_base.result m c.raise_base.ensures.ok c.raise_base.ensures.off

pub returns-clause-raised : goal.returns-clause-raised
returns-clause-raised g c =
    let p = g.P.Port.state c.args.root.now.port in
    let m : c.max-2.result ≡ max c.args.base p.stored_base = c.max-2.ensures ∙ (λ i. max (c.base.view_is i) ((c.max.view_is ∙ c.stored.ensures) i)) in
    let below : p.base < c.args.base = search rules in
    raised_after g.P.Port.state c.args.root.now c.raise_base.new.self c.args.base c.max-2.result c.raise_base.result m below c.raise_base.ensures.ok
