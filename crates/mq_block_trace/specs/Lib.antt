pub mod Fresh
pub mod Lines
pub mod Marks
pub mod Prefixes
pub mod Traced
pub mod Written
