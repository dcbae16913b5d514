pub mod Bits
pub mod Empty
pub mod Fields
pub mod Inodes
pub mod Names
pub mod Places
pub mod Slots
pub mod Superblock
