use Rattle.std.proofs.Common.{ℕ, ◌++◌, ◌∷◌, [], ap, ◌∙◌, inl, inr, ⊎_elim}
use Rattle.std.proofs.lemmas.Result.{err_from_is_err_and, on_ok_weaker, on_err_weaker}
use Rattle.mq_blocks.specs.Drive.{PortState, staged_end, after_flush, after_ring}
use Rattle.mq_pmr.specs.Runs.{Items}
use Rattle.mq_queue_side.proofs.send.ring_all.Goals as goal

pub returns-in_err-stage_all-clause-off : goal.returns-in_err-stage_all-clause-off
returns-in_err-stage_all-clause-off g c =
    let p = err_from_is_err_and c.from_residual.result c.from_residual.ensures.1 in rw p.1 (inl c.in_err-stage_all.ensures.off)

pub returns-clause-ok : goal.returns-clause-ok
returns-clause-ok g c = on_ok_weaker c.ring_once.result (λ is. is ∙ ap (λ (s : PortState). after_ring (after_flush s)) c.in_ok-stage_all.ensures.ok) c.ring_once.ensures.ok

pub returns-clause-rung : goal.returns-clause-rung
returns-clause-rung g c =
    let tx : ℕ = c.args.tx in
    on_ok_weaker c.ring_once.result
    (λ f. f tx c.in_ok-stage_all.ensures.staged ∙ (λ i. c.stage_all.ensures.rung i ++ (record { tx = tx; end = staged_end (c.in_ok-stage_all.ensures.ok i) }) ∷ [])) c.ring_once.ensures.rung

pub returns-clause-off : goal.returns-clause-off
returns-clause-off g c =
    let items : Items = c.args.items.now.items in
    let old : PortState = g.P.Port.state c.args.ring.now.port in
    on_err_weaker c.ring_once.result (λ cut. inr (⊎_elim
    (λ same. inl (same ∙ c.in_ok-stage_all.ensures.ok))
    (λ flushed. inr (flushed ∙ ap after_flush c.in_ok-stage_all.ensures.ok)) cut)) c.ring_once.ensures.off
