pub mod Evidence
pub mod Reading
pub mod Writing
pub mod Shown
pub mod Gathering
