use Rattle.std.proofs.Common.{◌≡◌, ◌+◌, ◌<◌, ap, arith, refl, sym, subst, inl, inr, ◌∙◌}
use Rattle.std.proofs.lemmas.Bool.{cases_lt}
use Rattle.mq_blocks.specs.Drive.{PortState}
use Rattle.mq_blocks.specs.declared.geometry.Geometry.{Geometry}
use Rattle.mq_ledger.specs.Records.{IsClear}
use Rattle.mq_ledger.specs.State.{port_at}
use Rattle.mq_core.proofs.MachineLifts.{same_port}
use Rattle.mq_core.proofs.Stored.{clear_less, stored_found}
use Rattle.mq_core.proofs.machine.reach.stored_to.Goals as goal

pub loop-q-preserved : goal.loop-q-preserved
loop-q-preserved c =
    let l = c.args.ledger.now in
    let ports = c.args.ports.now in
    let q = c.loop-q.q in
    let own : q < l.geometry.queues = omega (arith, c.loop-q-test.true, c.queues-q-end.ensures, ap (λ (g : Geometry). g.queues) c.geometry.ensures) in
    let is : c.stored_head-head.result ≡ (port_at ports q).stored_head = c.stored_head-head.ensures ∙ ap (λ (p : PortState). p.stored_head) (same_port ports q q c.index-ports-q.result (omega (arith, own, c.requires.ports)) refl c.index-ports-q.is) in
    let o = c.lowered-number.ensures in
    record {
      high = omega (arith, o.high, c.loop-q.invariant.high);
      clear = λ r low. elim (cases_lt r q) [
        | inl less ↦ clear_less l r (port_at ports r).stored_head (c.loop-q.number + 1) (c.lowered-number.result + 1) (c.loop-q.invariant.clear r less) (omega (arith, o.high))
        | inr past ↦
            let same : q ≡ r = omega (arith, low, past) in
            subst (λ n. IsClear l n (port_at ports n).stored_head (c.lowered-number.result + 1)) same (subst (λ h. IsClear l q h (c.lowered-number.result + 1)) is o.clear)
      ];
      greatest = λ n low clear. o.greatest n (c.loop-q.invariant.greatest n low clear) (subst (λ h. IsClear l q h (n + 1)) (sym is) (clear q own));
    }

pub returns : goal.returns
returns c =
    let l = c.args.ledger.now in
    let i = c.loop-q.invariant in
    let queues = ap (λ (g : Geometry). g.queues) c.geometry.ensures in
    stored_found l c.args.ports.now c.loop-q.number c.requires.numbers c.requires.queues i.high (λ q own. i.clear q (omega (arith, own, c.loop-q-test.false, c.queues-q-end.ensures, queues))) i.greatest
