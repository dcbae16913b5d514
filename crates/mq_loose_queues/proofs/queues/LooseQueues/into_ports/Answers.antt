use Rattle.std.proofs.Common.{◌≡◌, map, sym, ap, ◌∙◌}
use Rattle.mq_loose_queues.specs.Queues.{StoredSide, stored_state}
use Rattle.mq_loose_queues.proofs.Calls.{map-after, turned}
use Rattle.mq_loose_queues.proofs.queues.LooseQueues.into_ports.Goals as goal

pub returns-clause-drive : goal.returns-clause-drive
returns-clause-drive g c =
    let state = g.P.Port.state in
    let sides = c.args.self.parts.sides.items in
    let back = turned (λ s. s.pmr.port) sides _ _ c.reverse.new.self.items c.args.self.empty c.unmake_sides.ensures c.reverse.ensures.items in
    let queues : map state c.reverse.new.self.items ≡ map (λ (s : StoredSide). s.side.port) (map (stored_state state g.P.Port.faults) sides) =
    ap (map state) back ∙ (map-after state (λ s. s.pmr.port) sides ∙ sym (map-after (λ (s : StoredSide). s.side.port) (stored_state state g.P.Port.faults) sides)) in
    λ i. record { queues = queues i; root = state (c.into_port.ensures i) }

pub returns-clause-faults : goal.returns-clause-faults
returns-clause-faults g c =
    let faults = g.P.Port.faults in
    let sides = c.args.self.parts.sides.items in
    let back = turned (λ s. s.pmr.port) sides _ _ c.reverse.new.self.items c.args.self.empty c.unmake_sides.ensures c.reverse.ensures.items in
    let queues : map faults c.reverse.new.self.items ≡ map (λ (s : StoredSide). s.side.faults) (map (stored_state g.P.Port.state faults) sides) =
    ap (map faults) back ∙ (map-after faults (λ s. s.pmr.port) sides ∙ sym (map-after (λ (s : StoredSide). s.side.faults) (stored_state g.P.Port.state faults) sides)) in
    λ i. record { queues = queues i; root = faults (c.into_port.ensures i) }
