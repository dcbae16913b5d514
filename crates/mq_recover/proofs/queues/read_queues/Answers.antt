use Rattle.std.proofs.Common.{◌≡◌, ◌<◌, ◌⊎◌, inl, inr, ℕ, max, refl, sym, ◌∙◌, ap, subst, arith}
use Rattle.mq_blocks.specs.Drive.{PortState, IsQuiescent}
use Rattle.mq_ledger.specs.State.{port_at}
use Rattle.mq_drive.specs.Start.{IsPortOf}
use Rattle.mq_drive.specs.declared.role.Role.TheVariants.{Queue}
use Rattle.mq_recover.specs.Drives.{states}
use Rattle.mq_recover.specs.Queues.{newest_number}
use Rattle.mq_recover.specs.Refusals.{IsReadableBy, IsGreatest, RefusesQueueBy}
use Rattle.mq_recover.specs.declared.refusal.ChainRefusal.TheVariants.{OutOfMemory}
use Rattle.mq_recover.proofs.DrivesQueueReads.{port-is, port-count, none-read, more-read, all-read, queue-refused}
use Rattle.mq_recover.proofs.queues.read_queues.Goals as goal

pub read_queue-requires-clause-port : goal.read_queue-requires-clause-port
read_queue-requires-clause-port g c =
    let state = g.P.Port.state in
    let queues = c.args.ports.now.queues.items in
    let at = port-is state queues c.deref-port-items.result.now c.loop-q.q c.port-item.result c.deref-port-items.ensures.value c.loop-q-test.true c.port-item.is in
    let low : c.loop-q.q < c.args.geometry.queues = subst (λ (n : ℕ). c.loop-q.q < n) (port-count state queues c.deref-port-items.result.now c.args.geometry.queues c.deref-port-items.ensures.value c.requires.still.count) c.loop-q-test.true in
    subst (IsPortOf c.args.geometry (Queue c.loop-q.q)) at (c.requires.still.each c.loop-q.q low).port

pub read_queue-requires-clause-quiet : goal.read_queue-requires-clause-quiet
read_queue-requires-clause-quiet g c =
    let state = g.P.Port.state in
    let queues = c.args.ports.now.queues.items in
    let at = port-is state queues c.deref-port-items.result.now c.loop-q.q c.port-item.result c.deref-port-items.ensures.value c.loop-q-test.true c.port-item.is in
    let low : c.loop-q.q < c.args.geometry.queues = subst (λ (n : ℕ). c.loop-q.q < n) (port-count state queues c.deref-port-items.result.now c.args.geometry.queues c.deref-port-items.ensures.value c.requires.still.count) c.loop-q-test.true in
    subst IsQuiescent at (c.requires.still.each c.loop-q.q low).quiet

pub loop-q-init : goal.loop-q-init
loop-q-init g c = record {
  read = none-read g.D.Descriptors.accepts c.args.geometry (states g.P.Port.state c.args.ports.now.queues.items c.args.ports.now.root) c.new-chains.result.items c.base.inside.0 c.new-chains.ensures.items (c.base.view_is ∙ c.requires.base);
  fits = c.base.invariant;
  base_is = refl;
}

pub returns-in-Err-clause-refused : goal.returns-in-Err-clause-refused
returns-in-Err-clause-refused g c =
    let state = g.P.Port.state in
    let queues = c.args.ports.now.queues.items in
    let d = states state queues c.args.ports.now.root in
    let at = port-is state queues c.deref-port-items.result.now c.loop-q.q c.port-item.result c.deref-port-items.ensures.value c.loop-q-test.true c.port-item.is in
    let low : c.loop-q.q < c.args.geometry.queues = subst (λ (n : ℕ). c.loop-q.q < n) (port-count state queues c.deref-port-items.result.now c.args.geometry.queues c.deref-port-items.ensures.value c.requires.still.count) c.loop-q-test.true in
    let refused : (c.in-Err.cause ≡ OutOfMemory) ⊎ RefusesQueueBy g.D.Descriptors.accepts g.D.Descriptors.refuses c.args.geometry (port_at d.queues c.loop-q.q) c.loop-q.q d.root.base c.in-Err.cause = elim c.in-Err.ensures.refused [
      | inl x ↦ inl x
      | inr x ↦ inr (
          subst (λ (s : PortState). RefusesQueueBy g.D.Descriptors.accepts g.D.Descriptors.refuses c.args.geometry s c.loop-q.q d.root.base c.in-Err.cause) (sym at)
          (subst (λ (n : ℕ). RefusesQueueBy g.D.Descriptors.accepts g.D.Descriptors.refuses c.args.geometry (state c.port-item.result) c.loop-q.q n c.in-Err.cause) (c.loop-q.invariant.base_is ∙ c.requires.base) x)
          )
    ] in
    queue-refused g.D.Descriptors.accepts g.D.Descriptors.refuses c.obeys.ensures c.args.geometry d c.loop-q.q c.loop-q.top c.loop-q.chains.items c.in-Err.cause c.bad_queue.result c.loop-q.invariant.read low refused c.bad_queue.ensures

pub loop-q-preserved : goal.loop-q-preserved
loop-q-preserved g c =
    let state = g.P.Port.state in
    let queues = c.args.ports.now.queues.items in
    let d = states state queues c.args.ports.now.root in
    let at = port-is state queues c.deref-port-items.result.now c.loop-q.q c.port-item.result c.deref-port-items.ensures.value c.loop-q-test.true c.port-item.is in
    let base_is : c.loop-q.base ≡ d.root.base = c.loop-q.invariant.base_is ∙ c.requires.base in
    let chain = c.in-Ok.read.chain in
    let readable : IsReadableBy g.D.Descriptors.accepts c.args.geometry (port_at d.queues c.loop-q.q) c.loop-q.q d.root.base chain =
    subst (λ (s : PortState). IsReadableBy g.D.Descriptors.accepts c.args.geometry s c.loop-q.q d.root.base chain) (sym at) (subst (λ (n : ℕ). IsReadableBy g.D.Descriptors.accepts c.args.geometry (state c.port-item.result) c.loop-q.q n chain) base_is c.in-Ok.ensures.ok) in
    let greatest : IsGreatest (port_at d.queues c.loop-q.q) (port_at d.queues c.loop-q.q).head (port_at d.queues c.loop-q.q).doorbell c.in-Ok.read.greatest =
    subst (λ (s : PortState). IsGreatest s s.head s.doorbell c.in-Ok.read.greatest) (sym at) c.in-Ok.ensures.greatest in
    let top : c.max-top.result ≡ max c.loop-q.top (max (newest_number d.root.base chain) c.in-Ok.read.greatest) =
    c.max-top.ensures ∙ ap (max c.loop-q.top) (c.top_of.ensures ∙ ap (λ (n : ℕ). max (newest_number n chain) c.in-Ok.read.greatest) (c.base-in-loop-q.view_is ∙ base_is)) in
    record {
      read = more-read g.D.Descriptors.accepts g.D.Descriptors.refuses c.obeys.ensures c.args.geometry d c.loop-q.q c.loop-q.top c.in-Ok.read.greatest c.max-top.result c.loop-q.chains.items c.push.new.self.items chain c.loop-q.invariant.read readable greatest c.in_ok-push.ensures.items top;
      fits = c.max-top.type_inv;
      base_is = c.loop-q.invariant.base_is;
    }

pub returns-clause-ok : goal.returns-clause-ok
returns-clause-ok g c =
    let state = g.P.Port.state in
    let queues = c.args.ports.now.queues.items in
    let count = port-count state queues c.deref-port-items.result.now c.args.geometry.queues c.deref-port-items.ensures.value c.requires.still.count in
    let all : c.loop-q.q ≡ c.args.geometry.queues = omega (arith, count, c.loop-q-test.false, c.loop-q.auto.q-end) in
    all-read g.D.Descriptors.accepts g.D.Descriptors.refuses c.obeys.ensures c.args.geometry (states state queues c.args.ports.now.root) c.loop-q.q c.loop-q.top c.loop-q.chains.items (record { chains = c.loop-q.chains; top = c.loop-q.top }) c.loop-q.invariant.read all refl refl
