use Rattle.std.proofs.Common.{◌≡◌, ◌+◌, ◌∙◌, length, ap, arith, rules}
use Rattle.mq_blocks.proofs.DescriptorLimits.{limit-high, further-most}
use Rattle.mq_ledger.specs.declared.tx.Tx.{Tx}
use Rattle.mq_core.proofs.machine.parts.Parts.has_room.Goals as goal

pub overflow_add-entries-2 : goal.overflow_add-entries-2
overflow_add-entries-2 c =
    let most = further-most (length c.args.tx.now.logged + length c.args.tx.now.revoked) in
    let few = c.requires.tx.few in
    let high = limit-high c.args.self.ledger.now.geometry in
    let l : c.len-copies.result ≡ length c.logged.inside.0.items = search rules in
    let d : c.len.result ≡ length c.direct.inside.0.items = search rules in
    let logged : length c.logged.inside.0.items ≡ length c.args.tx.now.logged = ap length c.logged.view_is ∙ ap (λ (t : Tx). length t.logged) c.tx.view_is in
    let direct : length c.direct.inside.0.items ≡ length c.args.tx.now.direct = ap length c.direct.view_is ∙ ap (λ (t : Tx). length t.direct) c.tx.view_is in
    omega arith
