pub mod Completion
pub mod Dwords
pub mod Entry
pub mod Field
pub mod Fields
pub mod Says
