pub mod AlikeDrives
pub mod AlikeQueues
pub mod OldFiles
pub mod RestLeft
