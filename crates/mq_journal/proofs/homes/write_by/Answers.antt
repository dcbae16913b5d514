use Rattle.std.proofs.Common.{sym, subst}
use Rattle.mq_turns.specs.declared.turn.Item.TheVariants as item
use Rattle.mq_journal.specs.Ports.{WritesHome, by_root, by_side}
use Rattle.mq_journal.proofs.homes.write_by.Goals as goal

pub returns-in-Side : goal.returns-in-Side
returns-in-Side g c =
    let e = c.write_home.ensures in
    subst (λ p. WritesHome g.P.Port.state g.P.Port.faults c.args.lba c.args.copy c.write_home.result p (item.Side c.write_home.new.self)) (sym c.in-Side.is)
    (by_side c.in-Side.side c.write_home.new.self (record { gives = e.home; stays = e.stays; counts = e.counts; told = e.told; kept = e.kept; stored = e.stored; own = e.own }))

pub returns-in-Root : goal.returns-in-Root
returns-in-Root g c =
    let e = c.write_home-in-Root.ensures in
    subst (λ p. WritesHome g.P.Port.state g.P.Port.faults c.args.lba c.args.copy c.write_home-in-Root.result p (item.Root c.write_home-in-Root.new.self)) (sym c.in-Root.is)
    (by_root c.in-Root.root c.write_home-in-Root.new.self (record { gives = e.home; stays = e.stays }))
