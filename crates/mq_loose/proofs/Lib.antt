pub mod Closures
pub mod Homes
pub mod Forms
mod Sides
pub mod Ports
pub mod Events
pub mod Cuts
pub mod Rows
pub mod Safe
pub mod Runs
mod Machines
mod Tellings
mod Starts
pub mod RowLists
pub mod Flags
pub mod Staged
pub mod Lasts
