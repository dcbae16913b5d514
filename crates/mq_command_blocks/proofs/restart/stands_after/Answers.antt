use Rattle.std.proofs.Common.{ℕ, Option, Some, refl, subst, sym}
use Rattle.mq_command_blocks.specs.Picked.{IsRestarted}
use Rattle.mq_command_blocks.proofs.RestartStanding.{stands_through, still_readable}
use Rattle.mq_command_blocks.proofs.restart.stands_after.Goals as goal

pub stands_now-requires-in-Some-clause-readable : goal.stands_now-requires-in-Some-clause-readable
stands_now-requires-in-Some-clause-readable c = still_readable c.args.image (Some c.in-Some.events) c.in_ok-first-in-Some.first c.in_ok-first-in-Some.ensures.ok

pub returns-in_ok-second-in-Some-clause-stands : goal.returns-in_ok-second-in-Some-clause-stands
returns-in_ok-second-in-Some-clause-stands c =
    let second = c.in_ok-second-in-Some.second in
    stands_through c.args.image (Some c.in-Some.events) c.in_ok-first-in-Some.first c.in_ok-first-in-Some.ensures.ok second.prefix second.blocks.items c.in_ok-second-in-Some.ensures.stands

pub returns-in_ok-second-in-Some-clause-chosen : goal.returns-in_ok-second-in-Some-clause-chosen
returns-in_ok-second-in-Some-clause-chosen c =
    let first = c.in_ok-first-in-Some.first in
    let second = c.in_ok-second-in-Some.second in
    subst (λ (a : Option ℕ). IsRestarted c.args.image a c.args.pick first.found.prefix second.blocks.items) (sym c.in-Some.is) (first, c.in_ok-first-in-Some.ensures.ok, c.in_ok-first-in-Some.ensures.chosen, refl, second.prefix, c.in_ok-second-in-Some.ensures.chosen)
