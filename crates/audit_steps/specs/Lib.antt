pub mod Auditing
pub mod PieceSize
pub mod Pieces
pub mod Steps
