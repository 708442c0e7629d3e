pub mod Both
pub mod Called
pub mod Gathered
pub mod Known
pub mod Looked
pub mod Told
pub mod Words
