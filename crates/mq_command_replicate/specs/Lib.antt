pub mod Feeds
pub mod Lasting
pub mod Links
pub mod Replicas
pub mod Replicates
pub mod Updates
