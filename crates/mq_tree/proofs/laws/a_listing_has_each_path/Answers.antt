use Rattle.mq_tree.proofs.Listings.{listing-once, sound-listing}
use Rattle.mq_tree.proofs.laws.a_listing_has_each_path.Goals as goal

pub returns : goal.returns
returns c = record { listing = sound-listing; only = listing-once }
