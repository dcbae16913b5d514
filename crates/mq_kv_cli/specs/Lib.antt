pub mod Asked
pub mod Help
pub mod Syntax
