pub mod Maps
pub mod Paths
pub mod Ways
