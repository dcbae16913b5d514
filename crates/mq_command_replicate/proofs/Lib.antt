pub mod Fills
pub mod HeldLines
pub mod Lasting
pub mod Links
pub mod Offered
pub mod Replicates
pub mod Started
pub mod LeftReplicas
