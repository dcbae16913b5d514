use Rattle.std.proofs.Common.{◌≡◌, true, sym, subst, ◌∙◌, List, get_or}
use Rattle.std.specs.List.{remove}
use Rattle.mq_blocks.specs.declared.command.Command.{Command}
use Rattle.mq_ledger.specs.Sides.{holds_count}
use Rattle.mq_core.specs.Events.{index_with}
use Rattle.mq_core.proofs.SidesCommands.{with_at}
use Rattle.mq_core.proofs.port.take_count.Goals as goal

pub returns-clause-some : goal.returns-clause-some
returns-clause-some c =
    let n = c.args.count in
    let seen : c.deref.result.now ≡ c.args.commands.now.items = c.deref.ensures.value in
    let found = c.in_ok-at.ensures.some in
    let held : holds_count n c.args.commands.now.items ≡ true = subst (λ (cs : List Command). holds_count n cs ≡ true) seen found.0 in
    let at : index_with n c.args.commands.now.items ≡ c.in_ok-at.at = subst (λ (cs : List Command). index_with n cs ≡ c.in_ok-at.at) seen found.1 in (
      held,
      sym (with_at n c.args.commands.now.items c.remove.result held) ∙ (λ i. get_or c.args.commands.now.items (at i) c.remove.result) ∙ sym c.remove.ensures.value,
      c.remove.ensures.items ∙ (λ i. remove c.args.commands.now.items (sym at i)),
    )
