use Rattle.std.proofs.Common.{◌≡◌, ◌<◌, [], true, sym, refl, ap, subst, ◌∙◌, reverse}
use Rattle.std.proofs.lemmas.Bool.{false≢true}
use Rattle.mq_blocks.specs.Geometry.{zone_of, homes_of}
use Rattle.mq_blocks.specs.Journal.{is_among}
use Rattle.mq_core.specs.Events.{end_home}
use Rattle.mq_core.specs.Homes.{IsIn, ports_after, root_after}
use Rattle.mq_core.specs.Parts.{state_with}
use Rattle.mq_core.proofs.EventsTellings.{among-reverse, left_without}
use Rattle.mq_core.proofs.machine.homes.home_done.Goals as goal
use Rattle.mq_core.proofs.machine.homes.home_done.Goals.{After-holds_block, Else-not-holds_block}

-- the blocks under way, oldest first, are looked through
seen : (c : After-holds_block) → c.holds_block.result ≡ is_among c.args.block (reverse c.args.writing.now.items)
seen c = c.holds_block.ensures ∙ ap (is_among c.args.block) c.deref.ensures.value ∙ sym (among-reverse c.args.block c.args.writing.now.items)

may : (c : Else-not-holds_block) → is_among c.args.block (reverse c.args.writing.now.items) ≡ true
may c = sym (seen (goal.at.Else-not-holds_block c).After-holds_block) ∙ c.if-not-holds_block.false

pub returns-then-not-holds_block : goal.returns-then-not-holds_block
returns-then-not-holds_block c = (refl, λ m. false≢true (sym c.if-not-holds_block.true ∙ seen (goal.at.returns-then-not-holds_block c).After-holds_block ∙ m), refl)

pub home_content-requires-clause-block : goal.home_content-requires-clause-block
home_content-requires-clause-block c = (c.requires (may c)).0

pub home_content-requires-clause-there : goal.home_content-requires-clause-there
home_content-requires-clause-there c = (c.requires (may c)).1

pub end_write-requires-clause-block : goal.end_write-requires-clause-block
end_write-requires-clause-block c = subst (λ g. c.args.block < homes_of g) (sym c.geometry.ensures) (c.requires (may (goal.at.end_write-requires-clause-block c).Else-not-holds_block)).0

pub end_write-requires-clause-there : goal.end_write-requires-clause-there
end_write-requires-clause-there c = subst (λ g. IsIn g c.args.block c.args.ports.now.items c.args.root.now) (sym c.geometry.ensures) (c.requires (may (goal.at.end_write-requires-clause-there c).Else-not-holds_block)).2

pub returns : goal.returns
returns c =
    let l = c.args.ledger.now in
    let x = c.args.block in
    let ports = c.end_write.ensures.ports ∙ (λ i. ports_after (end_home (c.geometry.ensures i) x (c.in_ok-content.ensures i)) (zone_of (c.geometry.ensures i) x) c.args.ports.now.items) in
    let root = c.end_write.ensures.root ∙ (λ i. root_after (end_home (c.geometry.ensures i) x (c.in_ok-content.ensures i)) (zone_of (c.geometry.ensures i) x) c.args.root.now) in
    let writing = ap reverse c.drop_block.ensures ∙ left_without x c.args.writing.now.items in
    (may (goal.at.returns c).Else-not-holds_block, λ i. state_with l (ports i) (root i) [] (writing i) [])
