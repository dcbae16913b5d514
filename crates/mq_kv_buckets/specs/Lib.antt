pub mod Keys
pub mod Records
pub mod Buckets
pub mod Edits
pub mod Store
pub mod Laws
pub mod Steps
