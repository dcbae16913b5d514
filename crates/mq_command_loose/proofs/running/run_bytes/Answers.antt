use Rattle.mq_command_loose.proofs.running.run_bytes.Goals as goal

pub returns-clause-ok : goal.returns-clause-ok
returns-clause-ok c =
    let ran = c.in_ok-run_text.ensures in
    (c.in_ok-text.text, ran.0, ran.1, c.in_ok-text.ensures.ok, ran.2, ran.3, ran.4, ran.5)
