use Rattle.std.proofs.Common.{◌≡◌, ℕ, suc, ◌+◌, ◌-◌, ◌*◌, ◌++◌, ◌∷◌, [], List, Option, Some, ap, ◌∙◌, arith, take, drop}
use Rattle.mq_blocks.specs.Drive.{PortState}
use Rattle.mq_blocks.specs.declared.geometry.Geometry.{Geometry}
use Rattle.mq_core.specs.Start.{fresh_port, fresh_ports, port_over}
use Rattle.mq_core.proofs.Start.{fresh_more}
use Rattle.mq_core.proofs.machine.fresh_queues.Goals as goal

part_is : (g : Geometry) (blocks homes : List (Option (List ℕ))) (q meta zone again : ℕ) → meta ≡ g.meta → zone ≡ g.zone → again ≡ g.zone → homes ≡ take (meta + q * zone + again - (meta + q * zone)) (drop (meta + q * zone) blocks)
    → port_over g (Some q) homes 0 ≡ fresh_port g blocks 0 (Some q)
part_is g blocks homes q meta zone again m z w is =
    let same : g.meta + q * g.zone + g.zone - (g.meta + q * g.zone) ≡ g.zone = omega arith in
    ap (λ hs. port_over g (Some q) hs 0) (is ∙ (λ i. take (m i + q * z i + w i - (m i + q * z i)) (drop (m i + q * z i) blocks)) ∙ ap (λ n. take n (drop (g.meta + q * g.zone) blocks)) same)

one_more : (g : Geometry) (blocks : List (Option (List ℕ))) (q : ℕ) (ports new : List PortState) (p : PortState) → ports ≡ fresh_ports g blocks 0 q → p ≡ fresh_port g blocks 0 (Some q) → new ≡ ports ++ p ∷ [] → new ≡ fresh_ports g blocks 0 (q + 1)
one_more g blocks q ports new p before is made =
    let at : q ≡ 0 + q = omega arith in
    let more : suc q ≡ q + 1 = omega arith in
    made ∙ (λ i. before i ++ is i ∷ []) ∙ ap (λ n. fresh_ports g blocks 0 q ++ fresh_port g blocks 0 (Some n) ∷ []) at ∙ fresh_more g blocks 0 q ∙ ap (λ n. fresh_ports g blocks 0 n) more

pub loop-q-preserved : goal.loop-q-preserved
loop-q-preserved c =
    one_more c.args.geometry c.args.blocks.now c.loop-q.q c.loop-q.ports.items c.push.new.self.items c.in_ok-fresh.field-0 c.loop-q.invariant
    (c.in_ok-fresh.ensures ∙ part_is c.args.geometry c.args.blocks.now c.in_ok-homes.homes.items c.loop-q.q c.meta.result c.zone.result c.zone-in-loop-q.result c.meta.ensures c.zone.ensures c.zone-in-loop-q.ensures c.in_ok-homes.ensures)
    c.in_ok-push.ensures.items
