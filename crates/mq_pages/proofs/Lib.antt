pub mod HeldCells
