pub mod OpeningStore
pub mod AlikeBuckets
pub mod Histories
pub mod Recovered
pub mod Leaving
