pub mod Completion
pub mod QueueCounting
pub mod QueueFitting
pub mod QueueOwning
pub mod Ring
pub mod RungsWalking
pub mod Runs
pub mod Written
