pub mod DrivesImages
pub mod DrivesNamed
pub mod Leads
pub mod Powered
pub mod Refusals
pub mod Seats
pub mod Starts
