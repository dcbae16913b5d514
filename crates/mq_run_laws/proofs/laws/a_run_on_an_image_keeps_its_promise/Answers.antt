use Rattle.mq_run_laws.proofs.Images.{keeps-promise}
use Rattle.mq_run_laws.proofs.laws.a_run_on_an_image_keeps_its_promise.Goals as goal

pub returns : goal.returns
returns c = λ x scripts o r run bytes. keeps-promise x scripts o r run bytes
