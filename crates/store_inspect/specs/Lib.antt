pub mod Items
pub mod Known
pub mod Runs
pub mod Front
pub mod Reading
pub mod Store
pub mod Laws
