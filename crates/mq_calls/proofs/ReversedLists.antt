-- Passed on for those who take sessions apart.
pub use Rattle.mq_queue_side.proofs.ReversedLists.{back-more}
