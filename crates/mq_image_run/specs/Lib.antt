pub mod Limits
pub mod Refusals
pub mod Drives
pub mod Runs
