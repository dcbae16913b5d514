pub mod Rising
pub mod Dependence
pub mod Form
pub mod Standing
