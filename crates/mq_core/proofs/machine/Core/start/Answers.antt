use Rattle.std.proofs.Common.{add-zero, ◌≡◌, ◌≤◌, ℕ, ◌^◌, ◌-◌, sym, ap, subst, ◌∙◌, replicate, List, [], reverse, length, Option, take, None}
use Rattle.mq_blocks.specs.Geometry.{homes_of}
use Rattle.mq_blocks.specs.Drive.{PortState, staged_end}
use Rattle.mq_blocks.specs.declared.geometry.Geometry.{Geometry}
use Rattle.mq_ledger.specs.Plain.{plain}
use Rattle.mq_ledger.specs.State.{State, Facts, front_of}
use Rattle.mq_ledger.specs.Records.{Ledger, start_ledger}
use Rattle.mq_core.specs.Start.{start_state, fresh_ports, fresh_port, port_over}
use Rattle.mq_core.specs.View.{state_with}
use Rattle.mq_core.proofs.MachineFacts.{start_facts}
use Rattle.mq_core.proofs.Start.{start_is}
use Rattle.mq_core.proofs.machine.Core.start.Goals as goal

facts_at : (g : Geometry) (blocks : List (Option (List ℕ))) (base : ℕ) (s : State) → length blocks ≡ homes_of g → base ≤ 2 ^ 62 → s ≡ start_state g blocks base → Facts plain s
facts_at g blocks base s whole low is = subst (λ t. Facts plain t) (sym is) (start_facts plain (start_state g blocks base) (start_is g blocks whole base low))

root_is : (g : Geometry) (blocks homes : List (Option (List ℕ))) (base meta : ℕ) → meta ≡ g.meta → homes ≡ take meta blocks → port_over g None homes base ≡ fresh_port g blocks base None
root_is g blocks homes base meta m is = ap (λ hs. port_over g None hs base) (is ∙ ap (λ n. take n blocks) m)

state_is : (g : Geometry) (blocks : List (Option (List ℕ))) (base queues : ℕ) (ledger : Ledger) (ports : List PortState) (root : PortState) (marks writing acknowledged : List ℕ) → ledger ≡ start_ledger g blocks base → queues ≡ g.queues → ports ≡ fresh_ports g blocks 0 g.queues → root ≡ fresh_port g blocks base None
    → marks ≡ replicate queues (2 ^ 64 - 1) → writing ≡ [] → acknowledged ≡ [] → state_with ledger ports root marks (reverse writing) (reverse acknowledged) ≡ start_state g blocks base
state_is g blocks base queues ledger ports root marks writing acknowledged l n p r m u k = λ i. state_with (l i) (p i) (r i) ((m ∙ ap (λ c. replicate c (2 ^ 64 - 1)) n) i) (reverse (u i)) (reverse (k i))

pub invariant_of-result : goal.invariant_of-result
invariant_of-result c =
    let g = c.args.geometry in
    let blocks = c.args.blocks.now in
    let base = c.args.base in
    let root = c.in_ok-fresh.ensures ∙ root_is g blocks c.in_ok-homes.homes.items base c.meta.result c.meta.ensures c.in_ok-homes.ensures in
    let s = state_is g blocks base c.queues-queues.result c.in_ok-start.field-0 c.in_ok-fresh_queues.field-0.items c.in_ok-fresh.field-0 c.in_ok-repeated.field-0.items c.new.result.items c.new-2.result.items c.in_ok-start.ensures c.queues-queues.ensures c.in_ok-fresh_queues.ensures root c.in_ok-repeated.ensures c.new.ensures.items c.new-2.ensures.items in
    let front : c.in_ok-start.field-0.front ≡ base = ap (λ (l : Ledger). l.front) c.in_ok-start.ensures in
    record {
      facts = facts_at g blocks base _ c.requires.blocks c.requires.base s;
      front_is = front ∙ sym (ap front_of s ∙ add-zero base);
      idle = ap (λ (p : PortState). staged_end p) root;
    }
