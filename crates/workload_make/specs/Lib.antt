pub mod Script
pub mod Progress
pub mod Examples
