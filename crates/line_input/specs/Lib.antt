pub mod Fail
pub mod Front
pub mod Gathering
pub mod Giving
pub mod Limits
pub mod Lines
pub mod Piece
pub mod Reader
