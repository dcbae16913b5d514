use Rattle.mq_tree_laws.proofs.Maps.{finite-numbers, finite-paths, named-number, number-below, number-named, seen}
use Rattle.mq_tree_laws.proofs.laws.a_tree_is_two_maps.Goals as goal

pub returns : goal.returns
returns c = record {
  tree = seen;
  named = λ g v number s. (number-named g v number s, λ r. named-number v r.0 number r.1);
  paths = finite-paths;
  numbers = λ g v s. finite-numbers v;
  below = number-below;
}
