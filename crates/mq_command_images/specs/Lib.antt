pub mod Commands
pub mod Lines
pub mod Names
pub mod Recovers
pub mod Checks
pub mod Audits
