pub mod Checks
pub mod Choices
pub mod Images
pub mod Reading
pub mod Standing
