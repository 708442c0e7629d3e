pub mod Layout
pub mod Eras
pub mod Digests
pub mod Inputs
pub mod Laws
pub mod Roots
pub mod Plain
pub mod Spelled
