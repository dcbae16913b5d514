use Rattle.std.proofs.Common.{add-zero, ◌≡◌, ℕ, sym, ap, subst, ◌∙◌, List, [], reverse, Option, take, None}
use Rattle.mq_blocks.specs.Drive.{PortState, staged_end}
use Rattle.mq_blocks.specs.declared.geometry.Geometry.{Geometry}
use Rattle.mq_ledger.specs.Plain.{plain}
use Rattle.mq_ledger.specs.State.{State, IsStart, front_of}
use Rattle.mq_ledger.specs.Records.{Ledger, start_ledger}
use Rattle.mq_core.specs.Start.{start_state, fresh_ports, fresh_port, port_over}
use Rattle.mq_core.specs.View.{state_with}
use Rattle.mq_loose.specs.Rows.{loose_rows}
use Rattle.mq_loose.specs.declared.machine.rows.LooseRow.{LooseRow}
use Rattle.mq_loose.specs.Safe.{Facts}
use Rattle.mq_loose.specs.View.{no_marks}
use Rattle.mq_loose.proofs.Runs.{loose_start}
use Rattle.mq_loose.proofs.Starts.{start_loose}
use Rattle.mq_loose.proofs.machine.LooseCore.start.Goals as goal

facts_at : (g : Geometry) (blocks : List (Option (List ℕ))) (base : ℕ) (s : State) → IsStart plain (start_state g blocks base) → s ≡ start_state g blocks base → Facts plain s
facts_at g blocks base s start is = subst (λ t. Facts plain t) (sym is) (loose_start plain (start_state g blocks base) (start_loose (start_state g blocks base) start))

root_is : (g : Geometry) (blocks homes : List (Option (List ℕ))) (base meta : ℕ) → meta ≡ g.meta → homes ≡ take meta blocks → port_over g None homes base ≡ fresh_port g blocks base None
root_is g blocks homes base meta m is = ap (λ hs. port_over g None hs base) (is ∙ ap (λ n. take n blocks) m)

state_is : (g : Geometry) (blocks : List (Option (List ℕ))) (base : ℕ) (ledger : Ledger) (ports : List PortState) (root : PortState) (writing acknowledged : List ℕ) → ledger ≡ start_ledger g blocks base → ports ≡ fresh_ports g blocks 0 g.queues → root ≡ fresh_port g blocks base None
    → writing ≡ [] → acknowledged ≡ [] → state_with ledger ports root (no_marks ledger) (reverse writing) (reverse acknowledged) ≡ start_state g blocks base
state_is g blocks base ledger ports root writing acknowledged l p r u k = λ i. state_with (l i) (p i) (r i) (no_marks (l i)) (reverse (u i)) (reverse (k i))

rows_none : (g : Geometry) (blocks : List (Option (List ℕ))) (base : ℕ) (ledger : Ledger) (rows : List LooseRow) → ledger ≡ start_ledger g blocks base → rows ≡ [] → rows ≡ reverse (loose_rows ledger.base ledger.starts ledger.history)
rows_none g blocks base ledger rows l none = none ∙ sym (ap (λ (m : Ledger). reverse (loose_rows m.base m.starts m.history)) l)

pub invariant_of-result : goal.invariant_of-result
invariant_of-result c =
    let g = c.args.geometry in
    let blocks = c.args.blocks.now in
    let base = c.args.base in
    let root = c.in_ok-fresh.ensures ∙ root_is g blocks c.in_ok-homes.homes.items base c.meta.result c.meta.ensures c.in_ok-homes.ensures in
    let s = state_is g blocks base c.in_ok-start.field-0 c.in_ok-fresh_queues.field-0.items c.in_ok-fresh.field-0 c.new-2.result.items c.new-3.result.items c.in_ok-start.ensures c.in_ok-fresh_queues.ensures root c.new-2.ensures.items c.new-3.ensures.items in
    let front : c.in_ok-start.field-0.front ≡ base = ap (λ (l : Ledger). l.front) c.in_ok-start.ensures in
    record {
      held = record {
        facts = facts_at g blocks base _ (c.starts.ensures g blocks base c.requires.blocks c.requires.base) s;
        front_is = front ∙ sym (ap front_of s ∙ add-zero base);
        idle = ap (λ (p : PortState). staged_end p) root;
      };
      rows = rows_none g blocks base c.in_ok-start.field-0 c.new.result.items c.in_ok-start.ensures c.new.ensures.items;
    }
