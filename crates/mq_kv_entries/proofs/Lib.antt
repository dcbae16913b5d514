pub mod Entries
pub mod LawsAlike
pub mod WorkingStepped
pub mod GroupsDone
pub mod Differences
pub mod Lacking
