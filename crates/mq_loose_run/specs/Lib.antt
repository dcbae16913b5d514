pub mod Runs
pub mod Lines
pub mod Items
pub mod Steps
pub mod Texts
pub mod Cuts
pub mod Markings
