use Rattle.std.proofs.Common.{ap, ◌∙◌, sym}
use Rattle.mq_blocks.specs.Journal.{is_among}
use Rattle.mq_ledger.specs.State.{State}
use Rattle.mq_core.proofs.EventsTellings.{among-reverse}
use Rattle.mq_core.proofs.machine.Core.acknowledged.Goals as goal

pub returns : goal.returns
returns c =
    c.holds_number.ensures ∙ ap (is_among c.args.number) c.deref.ensures.value ∙ sym (among-reverse c.args.number c.self.inside.acknowledged.items)
    ∙ ap (λ (s : State). is_among c.args.number s.acknowledged) c.self.view_is
