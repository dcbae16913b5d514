use Rattle.std.proofs.Common.{ℕ, subst}
use Rattle.mq_command_blocks.specs.Picked.{IsRunBy}
use Rattle.mq_command_blocks.proofs.blocks.run_bytes.Goals as goal

pub returns-clause-ok : goal.returns-clause-ok
returns-clause-ok c =
    let ran = c.in_ok-run_text.ensures in
    let run = subst (λ (n : ℕ). IsRunBy c.in_ok-text.text c.args.options.cut c.args.options.again n ran.0 ran.1) c.unwrap_or-pick.ensures ran.4 in
    (c.in_ok-text.text, ran.0, ran.1, record { spelled = c.in_ok-text.ensures.ok.0; good = c.in_ok-text.ensures.ok.1 }, ran.2, ran.3, run, ran.5, ran.6)
