pub mod Files
pub mod Reports
pub mod Synced
pub mod Verbs
