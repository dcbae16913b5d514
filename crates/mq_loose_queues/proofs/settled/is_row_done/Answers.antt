use Rattle.std.proofs.Common.{◌≡◌, ◌<◌, ℕ, List, length, get_or, map, nat_le, sym, ap, subst, ◌∙◌, arith}
use Rattle.std.proofs.lemmas.List.{get_or-map}
use Rattle.mq_blocks.specs.Drive.{PortState}
use Rattle.mq_ledger.specs.State.{port_at}
use Rattle.mq_loose.specs.declared.machine.rows.LooseRow.{LooseRow}
use Rattle.mq_loose_queues.specs.Rings.{IsRingIn}
use Rattle.mq_loose_queues.proofs.settled.is_row_done.Goals as goal

-- the port of the side that stands at an index
port_there : {A : Type 0} (port : A → PortState) (sides : List A) (q at : ℕ) (side : A) → at ≡ q → at < length sides → side ≡ get_or sides at side → port_at (map port sides) q ≡ port side
port_there port sides q at side is inside read = ap (port_at (map port sides)) (sym is) ∙ get_or-map port sides at side _ inside ∙ ap port (sym read)

pub head_of-requires : goal.head_of-requires
head_of-requires g c =
    let at : c.row.inside.0.0.0 ≡ c.args.row.now.queue = ap (λ (r : LooseRow). r.queue) c.row.view_is in
    let inside : c.row.inside.0.0.0 < length c.args.sides.now = omega (arith, c.requires.queue, at) in
    subst (λ s. IsRingIn g.P.Port.state s) (sym c.index-sides-row.is) (c.requires.rings c.row.inside.0.0.0 c.index-sides-row.result inside)

pub returns : goal.returns
returns g c =
    let at : c.row.inside.0.0.0 ≡ c.args.row.now.queue = ap (λ (r : LooseRow). r.queue) c.row.view_is in
    let inside : c.row.inside.0.0.0 < length c.args.sides.now = omega (arith, c.requires.queue, at) in
    let there = port_there (λ s. g.P.Port.state s.pmr.port) c.args.sides.now c.args.row.now.queue c.row.inside.0.0.0 c.index-sides-row.result at inside c.index-sides-row.is in
    let end = ap (λ (r : LooseRow). r.end) c.row.view_is in
    let head = c.head_of.ensures ∙ sym (ap (λ (p : PortState). p.head) there) in
    λ i. nat_le (end i) (head i)
