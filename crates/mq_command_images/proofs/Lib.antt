pub mod CommandsExact
pub mod CommandsSaying
pub mod Recovers
pub mod Checks
pub mod Audits
