pub mod Lines
pub mod Splits
mod Cuts
mod Going
pub mod Giving
pub mod Front
mod FirstLine
