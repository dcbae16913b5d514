pub mod Answers
pub mod Queue
pub mod Ring
pub mod Rungs
pub mod Runs
pub mod Slots
pub mod Written
