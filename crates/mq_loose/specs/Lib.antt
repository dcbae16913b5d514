pub mod Guards
pub mod Safe
pub mod Runs
pub mod Rows
pub mod View
pub mod Staged
