pub mod Applied
pub mod AppliedExact
pub mod Course
pub mod Faults
pub mod ProgramEndings
