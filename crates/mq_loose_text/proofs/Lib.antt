pub mod LooseLines
pub mod LooseTexts
pub mod ItemLines
pub mod Forms
pub mod Rooms
