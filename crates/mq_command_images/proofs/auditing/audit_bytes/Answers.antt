use Rattle.std.proofs.Common.{refl}
use Rattle.mq_command_images.specs.declared.answer.Answer.{Answer}
use Rattle.mq_command_images.proofs.Audits.{audits-as, misread-as}
use Rattle.mq_command_images.proofs.auditing.audit_bytes.Goals as goal

pub returns-in_ok-print_finding-in-Ok : goal.returns-in_ok-print_finding-in-Ok
returns-in_ok-print_finding-in-Ok c = audits-as c.args.bytes.now c.in-Ok.finding 0 c.in_ok-print_finding-in-Ok.field-0.items c.in-Ok.ensures.found refl c.in_ok-print_finding-in-Ok.ensures

pub returns-in-Err-Line : goal.returns-in-Err-Line
returns-in-Err-Line c = misread-as (λ (a : Answer). a.status) (λ (a : Answer). a.text.items) c.args.bytes.now c.in-Err-Line.line c.refuse_line.result (rw c.in-Err-Line.field-0-is at c.in-Err-Line.ensures.found) c.refuse_line.ensures
