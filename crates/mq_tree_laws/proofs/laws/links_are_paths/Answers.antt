use Rattle.mq_tree_laws.proofs.Paths.{dir-paths, file-paths}
use Rattle.mq_tree_laws.proofs.laws.links_are_paths.Goals as goal

pub returns : goal.returns
returns c = record { files = file-paths; directories = dir-paths }
