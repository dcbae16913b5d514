pub mod Totals
pub mod Verdicts
