pub mod Finds
pub mod Sure
