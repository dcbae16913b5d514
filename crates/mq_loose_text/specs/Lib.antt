pub mod Meaning
pub mod Text
