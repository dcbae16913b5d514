pub mod Maps
pub mod Paths
