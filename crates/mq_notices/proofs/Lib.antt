mod Lists
mod Protocols
mod Keeping
mod Ends
mod Pushed
mod Helped
mod Interleaving
pub mod Served
