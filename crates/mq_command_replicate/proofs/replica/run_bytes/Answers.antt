use Rattle.mq_command_replicate.proofs.replica.run_bytes.Goals as goal

pub returns-clause-ok : goal.returns-clause-ok
returns-clause-ok c =
    let ran = c.in_ok-run_text.ensures in
    (c.in_ok-text.text, ran.0, record { spelled = c.in_ok-text.ensures.ok.0; good = c.in_ok-text.ensures.ok.1 }, ran.1, ran.2, ran.3)
