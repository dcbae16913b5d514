use Rattle.mq_run_laws.proofs.Causes.{are-backed}
use Rattle.mq_run_laws.proofs.laws.a_refusal_on_an_image_is_backed.Goals as goal

pub returns : goal.returns
returns c = λ x scripts o r run bytes. are-backed x scripts o r run bytes
