use Rattle.mq_state_laws.proofs.PartsAssembly.{facts_with, front_reached, lawful, lawful_with}
use Rattle.mq_state_laws.proofs.laws.parts_are_lawful.Goals as goal

pub returns : goal.returns
returns c = record {
  facts = λ p marks are words. facts_with p are marks words;
  lawful = λ p marks are words. lawful_with p are marks words;
  least = λ p are. lawful p are;
  front = λ p are. front_reached p are;
}
