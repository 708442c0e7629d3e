pub mod Along
pub mod Kinds
pub mod Placed
pub mod Lines
pub mod Rows
pub mod Laws
pub mod Tail
