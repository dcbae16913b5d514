pub mod Entries
pub mod Group
pub mod Calls
pub mod Groups
pub mod GroupLaws
pub mod Working
