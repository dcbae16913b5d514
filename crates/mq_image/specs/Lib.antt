pub mod Drives
pub mod Faults
pub mod File
pub mod Old
pub mod Places
pub mod Reads
