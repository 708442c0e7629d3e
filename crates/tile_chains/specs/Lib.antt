pub mod Hashed
pub mod Part
