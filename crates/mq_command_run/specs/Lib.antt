pub mod Lines
pub mod RunsScripts
pub mod Generated
pub mod Generates
