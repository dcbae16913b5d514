pub mod Lines
pub mod Orders
pub mod Ranges
pub mod Reports
pub mod Sessions
pub mod Texts
