pub mod Along
pub mod Steps
pub mod Putting
pub mod Tails
