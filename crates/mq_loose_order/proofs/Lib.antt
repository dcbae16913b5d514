pub mod Rising
pub mod Dependences
pub mod Closed
pub mod NumbersWritten
pub mod FormSound
pub mod Standing
