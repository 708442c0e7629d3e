pub mod Taking
pub mod Reading
pub mod Staying
pub mod Nexts
pub mod KeptLinks
pub mod Ending
