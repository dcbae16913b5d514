use Rattle.mq_blocks.proofs.GeometryAddresses.{areas_apart, places_apart, kinds_apart, in_size}
use Rattle.mq_blocks.proofs.laws.addresses_are_apart.Goals as goal

pub returns-clause-areas : goal.returns-clause-areas
returns-clause-areas c = areas_apart

pub returns-clause-places : goal.returns-clause-places
returns-clause-places c = places_apart

pub returns-clause-kinds : goal.returns-clause-kinds
returns-clause-kinds c = kinds_apart

pub returns-clause-size : goal.returns-clause-size
returns-clause-size c = in_size
