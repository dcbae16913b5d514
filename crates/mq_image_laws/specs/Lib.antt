pub mod Alike
pub mod OldFiles
pub mod Rest
