use Rattle.mq_run_laws.proofs.LegalFacts.{each-number, in-order, moves, within}
use Rattle.mq_run_laws.proofs.history_laws.each_number_has_its_commit.Goals as goal

pub returns : goal.returns
returns c = record {
  commit = λ g scripts v base lines n run low high. each-number g scripts v base lines run n low high;
  within = λ g scripts v base lines l run there. within g scripts v base lines run l there;
  order = λ g scripts v base before after l m run there. in-order g scripts v base before after l m run there;
  rung = λ g scripts v lines answers q old new l t rung there on told of good. moves g scripts v lines answers q old new rung l t there on told of good;
}
