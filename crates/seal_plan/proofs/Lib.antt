pub mod Rows
pub mod Cums
pub mod Seen
pub mod ReadBack
pub mod OwnLeaves
pub mod Hashed
pub mod Bare
