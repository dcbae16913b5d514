pub mod Looses
