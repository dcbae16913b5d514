pub mod Held
pub mod Shadows
