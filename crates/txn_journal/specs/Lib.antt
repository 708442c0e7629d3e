pub mod Append
pub mod Create
pub mod Fail
pub mod Front
pub mod Held
pub mod Opening
pub mod Reading
pub mod Window
