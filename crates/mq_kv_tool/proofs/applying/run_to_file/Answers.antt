use Rattle.mq_command_images.specs.declared.answer.Answer.{Answer}
use Rattle.mq_kv_tool.proofs.Applied.{running-refused}
use Rattle.mq_kv_tool.proofs.applying.run_to_file.Goals as goal

pub returns-in-Err-clause-refused : goal.returns-in-Err-clause-refused
returns-in-Err-clause-refused g c =
    running-refused (λ (a : Answer). a.status) (λ (a : Answer). a.text.items) c.args.image c.in-Err.refusal c.refuse_run.result c.in-Err.ensures.refused c.refuse_run.ensures
