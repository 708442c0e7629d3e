pub mod Early
pub mod Seeing
pub mod Reading
pub mod Placing
pub mod Eras
pub mod Still
pub mod Failing
