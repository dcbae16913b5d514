use Rattle.mq_script.proofs.Reading.{script_again}
use Rattle.mq_script.proofs.laws.printed_scripts_are_read.Goals as goal

pub returns : goal.returns
returns c = script_again
