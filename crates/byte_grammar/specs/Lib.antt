pub mod Reading
pub mod Gated
pub mod Numbered
