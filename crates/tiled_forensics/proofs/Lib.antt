pub mod Steps
pub mod Targets
pub mod Bits
pub mod Fails
