pub mod Answers
pub mod Words
pub mod Verbs
pub mod Lists
pub mod Events
pub mod Traces
pub mod Findings
pub mod Spelled
