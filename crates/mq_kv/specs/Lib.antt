pub mod Opening
pub mod Seats
pub mod Calls
pub mod Laws
