pub mod Placing
mod Guard
pub mod Placed
