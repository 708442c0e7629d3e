mod Among
pub mod Drawn
mod Lasts
mod Ordered
mod Placing
pub mod Reading
mod Showing
mod Signs
mod Twelve
