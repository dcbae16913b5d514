use Rattle.mq_tree.proofs.CleanLaid.{clean-laid}
use Rattle.mq_tree.proofs.LaidClean.{volume-clean, volume-decoded}
use Rattle.mq_tree.proofs.CorruptRefuted.{corrupt-not_clean}
use Rattle.mq_tree.proofs.laws.clean_blocks.Goals as goal

pub returns : goal.returns
returns c = record { laid = clean-laid; clean = volume-clean; only = volume-decoded; corrupt = corrupt-not_clean }
