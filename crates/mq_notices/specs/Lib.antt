pub mod Notices
pub mod Rule
pub mod Protocol
pub mod Serving
pub mod Ends
pub mod Merging
