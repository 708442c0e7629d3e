pub mod Halving
pub mod Linked
pub mod Between
pub mod Always
