pub mod Applies
pub mod Decided
pub mod Makes
pub mod Outcome
pub mod Program
pub mod Says
