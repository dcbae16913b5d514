pub mod Findings
pub mod ListsReading
pub mod Runs
pub mod Spelled
pub mod SpelledBack
pub mod Telling
pub mod TracesOnce
pub mod TracesReading
